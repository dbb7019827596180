use Rattle.std.proofs.Common.{◌≡◌}
use Rattle.fabric_lists.specs.StreamFlags.{flags_of}
use Rattle.fabric_lists.proofs.FilledLemmas.{filled}
use Rattle.fabric_lists.proofs.FlagLemmas.{silent}
use Rattle.fabric_lists.proofs.stream_flags.StreamFlags.of.Given as goal

-- the flags of the first streams are set
abbrev pub invariant-loop-s : goal.invariant-loop-s
invariant-loop-s l = l.flags ≡ flags_of (filled l.parts l.s silent)
