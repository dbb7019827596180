-- A sum over the first items of a list.
use Rattle.std.proofs.lemmas.List.Sums.{sum_by_more}

pub ruleset sum_lemmas = (sum_by_more)
