-- Each key before this one names a field.
use Rattle.std.proofs.Common.{◌≡◌}
use Rattle.serde_json.specs.View.{members_view}
use Rattle.rf_script_parts.specs.Others.{first_other}
use Rattle.rf_script_parts.proofs.others.first_other.Given as goal

abbrev pub invariant-loop-key : goal.invariant-loop-key
invariant-loop-key l =
    first_other l.fields (members_view l.key-iterator) ≡ first_other l.fields (members_view l.members.entries)
