-- Each byte before this one is a letter.
use Rattle.std.proofs.Common.{◌≡◌, drop}
use Rattle.rf_script_parts.specs.Net.{has_letters}
use Rattle.rf_script_parts.proofs.net.has_letters.Given as goal

abbrev pub invariant-loop-byte : goal.invariant-loop-byte
invariant-loop-byte l = has_letters (drop l.byte-index l.name) ≡ has_letters l.name
