use Rattle.std.proofs.Common.{◌∙◌}
use Rattle.graph_core.specs.Pairs.{value_of}
use Rattle.graph_core.proofs.Tables.{held, lacking}
use Rattle.graph_core.proofs.values.Values.get.Goals as goal

pub returns-clause-held : goal.returns-clause-held
returns-clause-held c = rw (← c.self.view_is) (held c.self.inside.map.entries c.args.at c.copied.result (c.copied.ensures ∙ c.get.ensures.value))

pub returns-clause-none : goal.returns-clause-none
returns-clause-none c = rw (← c.self.view_is) (lacking c.self.inside.map.entries c.args.at c.self.invariant c.copied.result (c.copied.ensures ∙ c.get.ensures.value))

pub returns-clause-value : goal.returns-clause-value
unfolding value_of
returns-clause-value c = rw (← c.self.view_is) (c.copied.ensures ∙ c.get.ensures.value)
