-- A queue as contracts see it.
use Rattle.std.specs.Prelude.{ℕ, List}
use Rattle.net_machine.specs.Front.{Queued}

-- the packets of a queue, the front one first, and how many it holds at most
pub record QueueSeen : Type 0 where
  pub entries : List Queued
  pub room : ℕ
