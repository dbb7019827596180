use Rattle.chdr_words.proofs.Laws.{status_takes, status_again}
use Rattle.chdr_words.proofs.law.statuses_are_read_as_spelled.Goals as goal

pub returns : goal.returns
returns c = record { read = status_takes; unique = status_again }
