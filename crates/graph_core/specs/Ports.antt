-- The ports of the kinds of blocks, and the properties of a graph in order.
use Rattle.std.specs.Prelude.{ℕ, zero, suc, ◌+◌, ◌<◌, List, [], ◌∷◌, ◌++◌, slice_get, sum_by}
use Rattle.std.specs.Option.{option_map_or}
use Rattle.block_library.specs.declared.kind.BlockKind.{BlockKind}
use Rattle.block_library.specs.Blocks.{inputs, outputs}
use Rattle.graph_core.specs.declared.place.Side.{Side}
use Rattle.graph_core.specs.declared.place.Side.TheVariants.{Into, Out}
use Rattle.graph_core.specs.declared.place.Prop.TheVariants.{Rate, Item, Spp}
use Rattle.graph_core.specs.declared.place.PortAt.{PortAt}
use Rattle.graph_core.specs.declared.place.PropAt.{PropAt}

-- how many ports a block of the kind has on the side
abbrev pub port_count : Side → BlockKind → ℕ
port_count Into kind = inputs kind
port_count Out kind = outputs kind

-- how many ports the block of that number has on the side; none where there is no such block
abbrev pub ports_at : List BlockKind → ℕ → Side → ℕ
ports_at kinds block side = option_map_or (port_count side) (slice_get kinds block) 0

-- the block has that port on the side
abbrev pub IsPort : List BlockKind → Side → PortAt → Type 0
IsPort kinds side at = at.port < ports_at kinds at.block side

-- the block has the port of the property
abbrev pub IsProperty : List BlockKind → PropAt → Type 0
IsProperty kinds at = at.port < ports_at kinds at.block at.side

-- how many ports the blocks have together
abbrev pub port_total : List BlockKind → ℕ
port_total kinds = sum_by (λ kind. inputs kind + outputs kind) kinds

-- the properties of one port, in order
abbrev pub port_properties : ℕ → Side → ℕ → List PropAt
port_properties block side port =
    record { block = block; side = side; port = port; prop = Rate }
    ∷ record { block = block; side = side; port = port; prop = Item }
    ∷ record { block = block; side = side; port = port; prop = Spp }
    ∷ []

-- the properties of the first ports of a block's side, port by port
abbrev pub side_properties : ℕ → Side → ℕ → List PropAt
side_properties block side zero = []
side_properties block side (suc n) = side_properties block side n ++ port_properties block side n

-- the properties of a block: its inputs, then its outputs
abbrev pub block_properties : ℕ → BlockKind → List PropAt
block_properties block kind = side_properties block Into (inputs kind) ++ side_properties block Out (outputs kind)

-- the properties of blocks numbered from `block` on, block by block
abbrev pub properties_from : ℕ → List BlockKind → List PropAt
properties_from block [] = []
properties_from block (kind ∷ kinds) = block_properties block kind ++ properties_from (block + 1) kinds

-- every property of every port: block by block, inputs before outputs, port by port, and rate, item, spp
abbrev pub properties : List BlockKind → List PropAt
properties kinds = properties_from 0 kinds
