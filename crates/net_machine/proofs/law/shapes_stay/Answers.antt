use Rattle.net_machine.proofs.law.shapes_stay.Goals as goal
use Rattle.net_machine.proofs.Laws.{shape_stays, shapes_stay as all_shapes}

pub returns : goal.returns
returns c = record { one = shape_stays; all = all_shapes }
