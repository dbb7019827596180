-- The blocks of a network as contracts see them.
use Rattle.std.specs.Prelude.{ℕ, List, Option, None, map, slice_index_or}
use Rattle.block_library.specs.Memory.{Prepared}
use Rattle.net_present.specs.Present.{BlockNow}
use Rattle.fabric_parts.specs.Blocks.{BlockSeen}

abbrev pub block_in : BlockSeen → BlockNow
block_in b = b.now

abbrev pub made_in : BlockSeen → Option Prepared
made_in b = b.prepared

-- what is kept of each block
abbrev pub blocks_of : List BlockSeen → List BlockNow
blocks_of blocks = map block_in blocks

-- what each block has made for the packet that is fed next
abbrev pub made_of : List BlockSeen → List (Option Prepared)
made_of blocks = map made_in blocks

abbrev pub made_seen : List (Option Prepared) → ℕ → Option Prepared
made_seen made b = slice_index_or made b None
