-- The next packet of a producer's list.
use Rattle.std.proofs.Common.{◌≡◌, ℕ, ◌<◌, Some, slice_get, ap, ◌∙◌, sym, subst}
use Rattle.std.proofs.lemmas.Option.{slice_get-get_or}
use Rattle.block_library.proofs.Laws.{length-produced, get_or-produced}
use Rattle.block_library.specs.Producer.{packet_of, produced}
use Rattle.block_library.specs.declared.plan.TxPlan.{TxPlan}

pub next_produced : (plan : TxPlan) (k : ℕ) → k < plan.packets → slice_get (produced plan) k ≡ Some
    (packet_of plan k)
next_produced plan k near = let d = packet_of plan k in
    slice_get-get_or (produced plan) k d (subst (λ (n : ℕ). k < n) (sym (length-produced plan)) near)
    ∙ ap Some (get_or-produced plan k d near)
