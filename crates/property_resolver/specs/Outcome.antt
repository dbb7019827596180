-- What a commit answers, by what settles the graph.
use Rattle.std.specs.Prelude.{◌≡◌, ◌⊎◌, List, Result, Err, IsOk}
use Rattle.graph_core.specs.declared.place.PropAt.{PropAt}
use Rattle.property_resolver.specs.declared.fault.CommitFault.{CommitFault}
use Rattle.property_resolver.specs.declared.fault.CommitFault.TheVariants.{Unsettled, Memory}
use Rattle.graph_core.specs.Derivation.{Diagram, IsClosed, Settles}
use Rattle.graph_core.specs.Pairs.{Pair}
use Rattle.graph_core.specs.Ports.{properties}
use Rattle.graph_core.specs.State.{State, with_values}
use Rattle.property_resolver.specs.Missing.{IsFirstMissing}

-- the graph was committed with values that settle it
pub record IsCommitted (old new : State) : Type 0 where
  pub values : List Pair
  pub settles : Settles old.diagram values
  pub changed : new ≡ with_values old values

-- where some values settle the graph, the commit is Ok, unless memory runs out
abbrev pub OkWhereSettled : Diagram → Result (Unit {0}) CommitFault → Type 0
OkWhereSettled diagram result = (values : List Pair) → Settles diagram values → IsOk result ⊎ (result ≡ Err Memory)

-- where a closed derivation lacks a property, the first one is named, unless memory runs out
abbrev pub UnsettledWhereMissing : Diagram → Result (Unit {0}) CommitFault → Type 0
UnsettledWhereMissing diagram result = (pairs : List Pair) (at : PropAt) → IsClosed diagram pairs → IsFirstMissing pairs (properties diagram.kinds) at
    → (result ≡ Err (Unsettled at)) ⊎ (result ≡ Err Memory)
