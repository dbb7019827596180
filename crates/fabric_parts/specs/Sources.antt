-- What is ready on a stream, read from the fields.
use Rattle.std.specs.Prelude.{ℕ, ◌≤◌, ◌++◌, length, All, Option, None, Some, is_some}
use Rattle.std.specs.VecDeque.{deque_capacity}
use Rattle.block_library.specs.declared.plan.TxPlan.{TxPlan}
use Rattle.fabric_parts.specs.Ready.{IsMaking, IsShort, SourceSeen, most_offered, offered_by, unmade}
use Rattle.fabric_parts.specs.declared.source.Source.TheInside.{Inside}

abbrev pub view_of : Inside → SourceSeen
view_of source = record {
  ready = source.front.items ++ unmade source.tx source.made;
  offered = offered_by source.tx (length source.front.items);
  is_tx = is_some source.tx;
}

-- a Tx's queue has room for what is offered
abbrev pub HasRoom : Option TxPlan → ℕ → Type 0
HasRoom None room = Unit {0}
HasRoom (Some plan) room = most_offered ≤ room

pub record IsSound (source : Inside) : Type 0 where
  pub short : All IsShort source.front.items
  pub making : IsMaking source.tx source.made
  pub room : HasRoom source.tx (deque_capacity source.front)
  pub few : offered_by source.tx (length source.front.items) ≤ most_offered
