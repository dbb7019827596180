use Rattle.std.proofs.Common.{◌≡◌, ◌*◌, map}
use Rattle.std.specs.List.{range_with_len}
use Rattle.block_library.specs.Places.{IsAt}
use Rattle.block_library.specs.Blocks.{samples_in, repeated_part}
use Rattle.block_library.proofs.make.repeated.Given as goal

-- the packets before this one are made
abbrev pub invariant-loop-k : goal.invariant-loop-k
invariant-loop-k l = record {
  made : l.made.items ≡ map (repeated_part l.n l.item l.packet) (range_with_len 0 l.k);
  place : IsAt l.n l.place (l.k * samples_in l.item l.packet);
}
