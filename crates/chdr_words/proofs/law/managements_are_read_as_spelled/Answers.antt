use Rattle.chdr_words.proofs.Laws.{management_takes, management_reads, management_again, management_spelled}
use Rattle.chdr_words.proofs.law.managements_are_read_as_spelled.Goals as goal

pub returns : goal.returns
returns c = record { formed = management_takes; read = management_reads; unique = management_again; spelled = management_spelled }
