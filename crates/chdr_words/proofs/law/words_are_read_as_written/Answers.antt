use Rattle.chdr_words.proofs.Laws.{small_take, word_at-below, word_at-front, words_at-front, words_at-written, words_whole}
use Rattle.chdr_words.proofs.law.words_are_read_as_written.Goals as goal

pub returns : goal.returns
returns c = record { below = word_at-below; front = word_at-front; fronts = words_at-front; written = words_at-written; whole = words_whole; bytes = small_take }
