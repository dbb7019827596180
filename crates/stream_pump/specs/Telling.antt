-- What a net and the lists of its consumers tell for the book of a run.
use Rattle.std.specs.Prelude.{◌≡◌, ◌||◌, ℕ, Bool, List, [], map}
use Rattle.std.specs.Option.{option_map_or}
use Rattle.block_library.specs.declared.kind.BlockKind.{BlockKind}
use Rattle.chdr_packets.specs.declared.packet.Packet.{Packet}
use Rattle.net_machine.specs.declared.plan.RunPlan.{RunPlan}
use Rattle.net_machine.specs.Plans.{block_at, is_rx, stream_into}
use Rattle.net_machine.specs.State.{State}
use Rattle.net_machine.specs.Tallies.{end_of, line_at, tally_of, taken_by}
use Rattle.run_books.specs.declared.book.RunBook.{RunBook}
use Rattle.run_books.specs.Books.{blocks_of, each_stream, is_sink}
use Rattle.stream_pump.specs.Drains.{drain_at}

-- a block has a line
abbrev pub has_line : BlockKind → Bool
has_line kind = is_rx kind || is_sink kind

-- what was handed out of the stream into block b
abbrev pub drained_by : RunPlan → List (List Packet) → ℕ → List Packet
drained_by plan drains b = option_map_or (drain_at drains) (stream_into plan (block_at plan b) 0) []

-- a book tells of one state how each stream stands, what it did, what each Rx took, and the line of each Rx and sink
pub record TellsNow (w : State) (book : RunBook) : Type 0 where
  pub ends : book.ends ≡ each_stream (end_of w) w.plan
  pub tallies : book.tallies ≡ each_stream (tally_of w) w.plan
  pub taken : book.taken ≡ map (taken_by w) (blocks_of is_rx w.plan)
  pub lines : book.lines ≡ map (line_at w) (blocks_of has_line w.plan)
