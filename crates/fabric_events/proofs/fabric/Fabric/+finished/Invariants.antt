use Rattle.std.proofs.Common.{◌≡◌, ◌+◌, ◌*◌, true, take}
use Rattle.std.specs.List.{list_all}
use Rattle.net_present.specs.Present.{front_now}
use Rattle.fabric_events.specs.Fabrics.{input_drained, present_of}
use Rattle.fabric_events.proofs.fabric.Fabric.+finished.Given as goal

abbrev pub decreases-all_drained : goal.decreases-all_drained
decreases-all_drained l = 3 * l.k + 2

abbrev pub decreases-input_drained : goal.decreases-input_drained
decreases-input_drained l = 3 * l.k + 1

abbrev pub decreases-is_finished : goal.decreases-is_finished
decreases-is_finished l = 3 * l.k

-- those looked at so far are drained
abbrev pub invariant-all_drained-loop-epid : goal.invariant-all_drained-loop-epid
invariant-all_drained-loop-epid l =
    list_all (input_drained l.k (front_now (present_of l.self))) (take l.epid-index l.epids) ≡ true
