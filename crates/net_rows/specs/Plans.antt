-- The plan of the worked run can begin on its network: no part of that is beyond reach.
use Rattle.std.specs.Prelude.{[], true}
use Rattle.stream_endpoint.specs.declared.flow.Policy.TheVariants.{Auto}
use Rattle.net_machine.specs.declared.plan.RunPlan.{RunPlan}
use Rattle.net_machine.specs.Begin.{built}
use Rattle.net_machine.specs.CanBegin.{CanBegin}
use Rattle.net_rows.specs.Networks.{line, one_stream, stream, usual}

-- three packets from host 1 to host 2
abbrev pub three : RunPlan
three = one_stream (stream usual 0 Auto) 3 2 []

abbrev pub IsPossible : Type 0
IsPossible = CanBegin line (built line true []).nodes three
