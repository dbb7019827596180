-- A block as contracts see it, and what is kept of it, read from the fields.
use Rattle.std.specs.Prelude.{Option}
use Rattle.block_library.specs.Memory.{Prepared}
use Rattle.net_present.specs.Present.{BlockNow}

-- what is kept of a block, and what is made for the packet that is fed next
pub record BlockSeen : Type 0 where
  pub now : BlockNow
  pub prepared : Option Prepared
