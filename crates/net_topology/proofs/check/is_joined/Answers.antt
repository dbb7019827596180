use Rattle.std.proofs.Common.{eq-eqb}
use Rattle.std.proofs.lemmas.Bool.{eqb-true}
use Rattle.net_topology.proofs.CheckLemmas.{joined_from_row, row_from_joined}
use Rattle.net_topology.proofs.check.is_joined.Goals as goal

pub returns : goal.returns
returns c = (
  λ t. joined_from_row c.args.plan.now c.args.k c.args.a c.args.b c.args.row.now c.requires.row c.requires.a c.requires.b (eqb-true _ _ t),
  λ j. eq-eqb _ _ (row_from_joined c.args.plan.now c.args.k c.args.a c.args.b c.args.row.now c.requires.row c.requires.a c.requires.b j),
)
