-- As a run begins nothing was given, and so each Rx has all of it.
use Rattle.std.proofs.Common.{◌≡◌, ℕ, zero, suc, List, [], ◌∷◌, get_or, map, refl, sym, subst}
use Rattle.std.specs.Prelude.{replicate}
use Rattle.std.proofs.lemmas.List.{length-map}
use Rattle.chdr_packets.specs.declared.packet.Packet.{Packet}
use Rattle.net_machine.specs.declared.plan.RunPlan.{RunPlan}
use Rattle.net_machine.specs.declared.plan.StreamPlan.{StreamPlan}
use Rattle.net_machine.specs.Begin.{begun, opened}
use Rattle.net_machine.specs.CanBegin.{CanBegin}
use Rattle.net_machine.specs.State.{Node, State, idle}
use Rattle.net_topology.specs.declared.plan.Plan.{Plan}
use Rattle.net_present.specs.Kept.{now_at}
use Rattle.net_present.specs.Present.{Present}
use Rattle.fabric_events.specs.Begun.{begun_now}
use Rattle.fabric_lists.specs.Opened.{opened_now}
use Rattle.stream_pump.specs.Drains.{AreTaken, IsTaken, drain_at, waiting_at}
use Rattle.stream_pump.specs.Supply.{CarriesOut}

none-drained : (n s : ℕ) → drain_at (replicate n []) s ≡ []
none-drained zero s = refl
none-drained (suc n) zero = refl
none-drained (suc n) (suc s) = none-drained n s

none-given : (plan : RunPlan) (streams : List StreamPlan) (s : ℕ)
    → IsTaken [] (now_at (map (opened_now plan) streams) s).waiting (get_or (map (opened plan) streams) s idle)
none-given plan [] s = record { given = refl; count = refl }
none-given plan (st ∷ sts) zero = record { given = refl; count = refl }
none-given plan (st ∷ sts) (suc s) = none-given plan sts s

pub none-taken : (n : ℕ) (plan : RunPlan) (p : Present) (w : State) → AreTaken (begun_now plan p) (begun plan w) (replicate n [])
none-taken n plan p w s rx =
    subst (λ (ps : List Packet). IsTaken ps (waiting_at (begun_now plan p) s) (get_or (map (opened plan) plan.streams) s idle)) (sym (none-drained n s))
    (none-given plan plan.streams s)

pub carries-begun : (tree : Plan) (nodes : List Node) (plan : RunPlan) (p : Present) → CanBegin tree nodes plan → CarriesOut (begun_now plan p) plan
carries-begun tree nodes plan p can = record { same = refl; streams = length-map plan.streams (opened_now plan); few = can.few_streams }
