use Rattle.std.proofs.Common.{◌≡◌, ◌+◌, ◌-◌, ◌%◌, ◌<◌, ◌≤◌, ℕ}
use Rattle.block_library.specs.Blocks.{kept_samples}
use Rattle.block_library.proofs.make.kept_bytes.Given as goal

-- the bytes are those of the kept samples before this one, and up to any place after the kept one before
abbrev pub invariant-loop-index : goal.invariant-loop-index
invariant-loop-index l = record {
  before : (k : ℕ) → k ≤ l.index → l.index < k + l.n → l.bytes.items ≡ kept_samples l.n l.item l.phase l.samples k;
  turn : (l.phase + l.index) % l.n ≡ 0;
  near : l.index < l.count + l.n;
}

abbrev pub decreases-loop-index : goal.decreases-loop-index
decreases-loop-index l = l.count - l.index
