use Rattle.std.proofs.Common.{◌≡◌, ◌++◌, map, take}
use Rattle.script_runner.specs.FaultLines.{shown}
use Rattle.script_runner.proofs.fault_text.put_shown.Given as goal

abbrev pub invariant-loop-byte : goal.invariant-loop-byte
invariant-loop-byte l = l.text ≡ l.initial.text ++ map shown (take l.byte-index l.bytes)
