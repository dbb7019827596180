use Rattle.stream_pump.proofs.Laws.{resting_nets_can_run, whole_runs_have_books, whole_runs_rest}
use Rattle.stream_pump.proofs.law.whole_runs_have_books_and_rest.Goals as goal

pub returns-clause-can : goal.returns-clause-can
returns-clause-can c = resting_nets_can_run

pub returns-clause-books : goal.returns-clause-books
returns-clause-books c = whole_runs_have_books

pub returns-clause-rest : goal.returns-clause-rest
returns-clause-rest c = whole_runs_rest
