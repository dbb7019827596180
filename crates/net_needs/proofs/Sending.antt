-- A stream whose producer is a Tx begins at no other block.
use Rattle.std.proofs.Common.{◌≡◌, ℕ, true, false, sym, subst}
use Rattle.std.specs.Prelude.{Option}
use Rattle.std.specs.Option.{option_map_or}
use Rattle.net_topology.specs.declared.plan.Plan.{Plan}
use Rattle.net_machine.specs.declared.plan.RunPlan.{RunPlan}
use Rattle.net_machine.specs.Plans.{block_at, is_tx}
use Rattle.net_flows.specs.Lasting.{IsSound}
use Rattle.net_growth.specs.Sending.{ComesFromTx}
use Rattle.net_growth.proofs.Laws.{only_enters_send}
use Rattle.net_lawful.proofs.Laws.{blocks_give, plans_fit}
use Rattle.net_needs.specs.Sending.{IsFilledByTx, OnlyEntersSend}

comes-from-tx : (tree : Plan) (plan : RunPlan) (s : ℕ) → IsSound tree plan → IsFilledByTx plan s → ComesFromTx plan s
comes-from-tx tree plan s sound filled = λ b j out.
    subst (λ (o : Option ℕ). option_map_or (λ c. is_tx (block_at plan c).kind) o false ≡ true) (blocks_give tree plan b j s sound out) filled

pub only-enters : OnlyEntersSend
only-enters h w e s lawful now filled none =
    let sound : IsSound w.tree h.present.plan = subst (IsSound w.tree) (sym now.plan) lawful.steady.plan in
    only_enters_send h e s (plans_fit w.tree h.present.plan sound) (comes-from-tx w.tree h.present.plan s sound filled) none
