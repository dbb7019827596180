use Rattle.chdr_words.proofs.Laws.{command_takes, command_again}
use Rattle.chdr_words.proofs.law.commands_are_read_as_spelled.Goals as goal

pub returns : goal.returns
returns c = record { read = command_takes; unique = command_again }
