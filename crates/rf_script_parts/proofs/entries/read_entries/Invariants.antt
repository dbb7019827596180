-- What is left to be read, from what was read so far, is what the whole list is from its start.
use Rattle.std.proofs.Common.{◌≡◌, drop}
use Rattle.serde_json.specs.View.{items_view}
use Rattle.rf_script_parts.specs.Entries.{entries}
use Rattle.rf_script_parts.proofs.entries.read_entries.Given as goal

abbrev pub invariant-loop-value : goal.invariant-loop-value
invariant-loop-value g l =
    entries g.S.Entries.step l.read (items_view (drop l.value-index l.value-items)) ≡ entries g.S.Entries.step l.fn.before (items_view l.value-items)
