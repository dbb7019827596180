use Rattle.chdr_stream.proofs.Laws.{shows_captures, shows_only}
use Rattle.chdr_stream.proofs.law.captures_show_no_fault.Goals as goal

pub returns : goal.returns
returns c = record { exact = shows_captures; only = shows_only }
