use Rattle.stream_pump.proofs.Laws.{books_without_losses_are_plain}
use Rattle.stream_pump.proofs.law.books_without_losses_are_plain.Goals as goal

pub returns : goal.returns
returns c = books_without_losses_are_plain
