-- The values that settle the graph of the generated script.
use Rattle.std.proofs.Common.{◌≡◌, ℕ, ◌+◌, ◌*◌, true, List, [], ◌∷◌, ◌++◌, map, refl}
use Rattle.block_library.specs.declared.kind.BlockKind.{BlockKind}
use Rattle.block_library.specs.declared.kind.BlockKind.TheVariants.{Tx, Rx, Fifo, Keep}
use Rattle.graph_core.specs.declared.place.Edge.{Edge}
use Rattle.graph_core.specs.declared.place.PortAt.{PortAt}
use Rattle.graph_core.specs.declared.place.Prop.{Prop}
use Rattle.graph_core.specs.declared.place.Prop.TheVariants.{Rate, Item, Spp}
use Rattle.graph_core.specs.declared.place.PropAt.{PropAt}
use Rattle.graph_core.specs.declared.place.Rule.TheVariants.{Edge as edge_rule, Block as block_rule}
use Rattle.graph_core.specs.declared.place.Side.{Side}
use Rattle.graph_core.specs.declared.place.Side.TheVariants.{Into, Out}
use Rattle.graph_core.specs.Derivation.{Diagram, Settles}
use Rattle.graph_core.specs.Pairs.{Pair}
use Rattle.generated_runs.proofs.Following.{Step, by, pair_of, settles, settles-Settles, user}

abbrev port : ℕ → PortAt
port block = record { block = block; port = 0 }

abbrev join : ℕ → ℕ → Edge
join from to = record { from = port from; to = port to }

abbrev at : ℕ → Side → Prop → PropAt
at block side prop = record { block = block; side = side; port = 0; prop = prop }

abbrev chain_kinds : List BlockKind
chain_kinds = Tx ∷ Fifo ∷ Keep 2 ∷ Rx ∷ []

abbrev chain_edges : ℕ → List Edge
chain_edges c = join (4 * c) (4 * c + 1) ∷ join (4 * c + 1) (4 * c + 2) ∷ join (4 * c + 2) (4 * c + 3) ∷ []

abbrev chain_users : ℕ → List Pair
chain_users c = (at (4 * c) Out Rate, 2000000) ∷ (at (4 * c) Out Item, 4) ∷ (at (4 * c) Out Spp, 364) ∷ []

abbrev pub diagram : Diagram
diagram = record {
  kinds = chain_kinds ++ chain_kinds;
  edges = chain_edges 0 ++ chain_edges 1;
  users = chain_users 0 ++ chain_users 1;
}

-- one property along a chain, from what the user set at its Tx to its Rx, behind the keep another value
abbrev along : ℕ → Prop → ℕ → ℕ → List Step
along c prop first last =
    record { at = at (4 * c) Out prop; value = first; reason = user }
    ∷ record { at = at (4 * c + 1) Into prop; value = first; reason = by (edge_rule (3 * c)) (at (4 * c) Out prop) first }
    ∷ record { at = at (4 * c + 1) Out prop; value = first; reason = by (block_rule (4 * c + 1)) (at (4 * c + 1) Into prop) first }
    ∷ record { at = at (4 * c + 2) Into prop; value = first; reason = by (edge_rule (3 * c + 1)) (at (4 * c + 1) Out prop) first }
    ∷ record { at = at (4 * c + 2) Out prop; value = last; reason = by (block_rule (4 * c + 2)) (at (4 * c + 2) Into prop) first }
    ∷ record { at = at (4 * c + 3) Into prop; value = last; reason = by (edge_rule (3 * c + 2)) (at (4 * c + 2) Out prop) last }
    ∷ []

abbrev chain_steps : ℕ → List Step
chain_steps c = along c Rate 2000000 1000000 ++ along c Item 4 4 ++ along c Spp 364 364

abbrev steps : List Step
steps = chain_steps 0 ++ chain_steps 1

abbrev pub values : List Pair
values = map pair_of steps

test : settles diagram steps ≡ true
test = refl

pub values-Settles : Settles diagram values
values-Settles = settles-Settles diagram steps test
