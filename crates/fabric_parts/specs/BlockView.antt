-- What is kept of a block, read from the fields.
use Rattle.std.specs.Prelude.{◌≡◌, ◌⊎◌}
use Rattle.fabric_parts.specs.Blocks.{BlockSeen}
use Rattle.fabric_parts.specs.declared.block.BlockPart.TheInside.{Inside}

abbrev pub view_of : Inside → BlockSeen
view_of b = record { now = record { kept = b.block.kept; line = b.line }; prepared = b.block.prepared }

-- the block is of this kind, with samples of this size
pub record IsSound (b : Inside) : Type 0 where
  pub kind : b.block.kept.kind ≡ b.kind
  pub item : b.block.kept.item ≡ b.item
  pub size : (b.item ≡ 4) ⊎ (b.item ≡ 8)
