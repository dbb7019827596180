use Rattle.stream_pump.proofs.Laws.{books_lose_only_what_is_named, resynchronising_books_drain}
use Rattle.stream_pump.proofs.law.books_tell_of_drained_streams.Goals as goal

pub returns-clause-unnamed : goal.returns-clause-unnamed
returns-clause-unnamed c = books_lose_only_what_is_named

pub returns-clause-resynchronising : goal.returns-clause-resynchronising
returns-clause-resynchronising c = resynchronising_books_drain
