use Rattle.chdr_stream.proofs.Laws.{next_calls, pass_tells}
use Rattle.chdr_stream.proofs.law.calls_do_what_clauses_say.Goals as goal

pub returns : goal.returns
returns c = record { next = next_calls; pass = pass_tells }
