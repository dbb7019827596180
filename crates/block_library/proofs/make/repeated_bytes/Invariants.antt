use Rattle.std.proofs.Common.{◌≡◌, ◌+◌, ◌*◌, ◌/◌, length}
use Rattle.block_library.specs.Places.{IsAt}
use Rattle.block_library.specs.Blocks.{repeated_samples}
use Rattle.block_library.proofs.make.repeated_bytes.Given as goal

-- the samples before this one are written
abbrev pub invariant-loop-i : goal.invariant-loop-i
invariant-loop-i l = record {
  bytes : l.bytes.items ≡ repeated_samples l.n l.item l.samples (l.k * (length l.samples / l.item)) l._i;
  place : IsAt l.n l.place (l.k * (length l.samples / l.item) + l._i);
}
