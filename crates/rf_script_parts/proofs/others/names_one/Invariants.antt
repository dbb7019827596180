-- No field before this one has the name.
use Rattle.std.proofs.Common.{◌≡◌, drop}
use Rattle.rf_script_parts.specs.Others.{names_one}
use Rattle.rf_script_parts.proofs.others.names_one.Given as goal

abbrev pub invariant-loop-field : goal.invariant-loop-field
invariant-loop-field l = names_one (drop l.field-index l.fields) l.text ≡ names_one l.fields l.text
