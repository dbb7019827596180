use Rattle.chdr_words.proofs.Laws.{control_takes, control_reads, control_again, control_spelled}
use Rattle.chdr_words.proofs.law.controls_are_read_as_spelled.Goals as goal

pub returns : goal.returns
returns c = record { sized = control_takes; read = control_reads; unique = control_again; spelled = control_spelled }
