-- What stands where a commit is refused.
use Rattle.std.specs.Prelude.{◌≡◌, ◌≢◌, ℕ, List, Contains, Some, None}
use Rattle.graph_core.specs.declared.place.Prop.{Prop}
use Rattle.graph_core.specs.declared.place.PropAt.{PropAt}
use Rattle.graph_core.specs.declared.place.Rule.{Rule}
use Rattle.graph_core.specs.declared.place.Rule.TheVariants.{Block as block_rule}
use Rattle.property_resolver.specs.declared.fault.CommitFault.{CommitFault}
use Rattle.property_resolver.specs.declared.fault.CommitFault.TheVariants.{Clash, NotWhole, Unsettled, Memory}
use Rattle.graph_core.specs.Derivation.{Diagram, IsDerivation, IsClosed, Gives}
use Rattle.graph_core.specs.Pairs.{Pair}
use Rattle.graph_core.specs.Ports.{properties}
use Rattle.property_resolver.specs.Missing.{IsFirstMissing}

-- a derivation has `held` for a property of that name, and the rule gives another value for it from one of the pairs
pub record IsClash (diagram : Diagram) (by : Rule) (prop : Prop) (held derived : ℕ) : Type 0 where
  pub pairs : List Pair
  pub derivation : IsDerivation diagram pairs
  pub from : PropAt
  pub value : ℕ
  pub there : Contains pairs (from, value)
  pub at : PropAt
  pub named : at.prop ≡ prop
  pub gives : Gives diagram by from value at (Some derived)
  pub holds : Contains pairs (at, held)
  pub apart : held ≢ derived

-- a derivation has the value at the block, and the block's rule fails on it
pub record IsNotWhole (diagram : Diagram) (block value : ℕ) : Type 0 where
  pub pairs : List Pair
  pub derivation : IsDerivation diagram pairs
  pub from : PropAt
  pub at_block : from.block ≡ block
  pub there : Contains pairs (from, value)
  pub to : PropAt
  pub fails : Gives diagram (block_rule block) from value to None

-- a closed derivation lacks the property, and has each one before it
pub record IsUnsettled (diagram : Diagram) (at : PropAt) : Type 0 where
  pub pairs : List Pair
  pub closed : IsClosed diagram pairs
  pub least : IsFirstMissing pairs (properties diagram.kinds) at

-- the cause of a refusal; running out of memory has none
abbrev pub IsCause : Diagram → CommitFault → Type 0
IsCause diagram (Clash by prop held derived) = IsClash diagram by prop held derived
IsCause diagram (NotWhole block value) = IsNotWhole diagram block value
IsCause diagram (Unsettled at) = IsUnsettled diagram at
IsCause diagram Memory = Unit {0}
