use Rattle.stream_pump.proofs.Laws.{chosen_books_are_books}
use Rattle.stream_pump.proofs.law.chosen_books_are_books.Goals as goal

pub returns : goal.returns
returns c = chosen_books_are_books
