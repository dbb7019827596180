use Rattle.chdr_words.proofs.Laws.{each_at-none, each_at-more, each_at-cons, length-each_at}
use Rattle.chdr_words.proofs.law.places_are_read_in_turn.Goals as goal

pub returns : goal.returns
returns c = record { none = each_at-none; more = each_at-more; first = each_at-cons; len = length-each_at }
