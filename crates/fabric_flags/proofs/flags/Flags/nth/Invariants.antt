use Rattle.fabric_flags.specs.Set.{IsNth}
use Rattle.fabric_flags.proofs.flags.Flags.nth.Given as goal

-- the set flag before which so many are
abbrev pub invariant-loop : goal.invariant-loop
invariant-loop l = IsNth l.self l.counter l.at
