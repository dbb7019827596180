use Rattle.std.proofs.Common.{◌∙◌}
use Rattle.indexmap.proofs.CallerLemmas.{insert_entry-new}
use Rattle.graph_core.specs.contracts.place.PropAtPartialEq.TheImpl.{eq-value}
use Rattle.graph_core.proofs.Tables.{put, absent, inserted}
use Rattle.graph_core.proofs.values.Values.put.Goals as goal

pub returns-clause-put : goal.returns-clause-put
returns-clause-put c = rw (← c.self.view_is) (put c.self.inside.map c.insert.new.self c.args.at c.args.value c.self.invariant c.insert.ensures.unique c.in_ok-insert.ensures.updates)

pub returns-clause-last : goal.returns-clause-last
returns-clause-last c = rw (← c.self.view_is) (λ none. c.in_ok-insert.ensures.entries ∙ insert_entry-new eq-value.it c.self.inside.map c.args.at c.args.value (absent c.self.inside.map.entries c.args.at none))

pub returns-clause-ok : goal.returns-clause-ok
returns-clause-ok c = rw (← c.self.view_is)
    (c.in_ok-insert.ensures.entries ∙ inserted c.self.inside.map.entries c.args.at c.args.value)
