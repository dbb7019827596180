use Rattle.std.proofs.Common.{◌≡◌, length, arith}
use Rattle.rf_script_reader.specs.Commands.{commands, commands_from, at_first}
use Rattle.rf_script_reader.proofs.CommandLemmas.{list-stops}
use Rattle.rf_script_reader.proofs.commands.commands.Goals as goal
use Rattle.serde_json.specs.View.{items_view}

pub returns-in-Err-clause-err : goal.returns-in-Err-clause-err
unfolding commands
returns-in-Err-clause-err c =
    let vs = c.args.values.now.items in
    list-stops c.loop-value.read vs c.loop-value.value-index c.value-item.result c.len-number.result (commands_from (at_first c.args.version) (items_view vs))
    c.in-Err.wrong c.told.result (omega arith) (cc) (cc) (cc) c.in-Err.ensures.err c.told.ensures
