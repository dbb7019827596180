-- No node before this one has the name.
use Rattle.std.proofs.Common.{◌≡◌, drop}
use Rattle.rf_script_parts.specs.Scope.{epid_named}
use Rattle.rf_script_parts.proofs.scope.epid_named.Given as goal

abbrev pub invariant-loop-named : goal.invariant-loop-named
invariant-loop-named l = epid_named (drop l.named-index l.names) l.name ≡ epid_named l.names l.name
