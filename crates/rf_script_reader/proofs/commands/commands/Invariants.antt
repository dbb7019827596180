-- What is left to be read, from what was read so far, is what the whole list is; so many commands were read.
use Rattle.std.proofs.Common.{◌≡◌, length, drop}
use Rattle.serde_json.specs.View.{items_view}
use Rattle.rf_script_reader.specs.Commands.{commands_from, at_first}
use Rattle.rf_script_reader.proofs.commands.commands.Given as goal

abbrev pub invariant-loop-value : goal.invariant-loop-value
invariant-loop-value l = record {
  reads : commands_from l.read (items_view (drop l.value-index l.value-items)) ≡ commands_from (at_first l.version) (items_view l.value-items);
  count : length l.read.list ≡ l.value-index;
}
