use Rattle.std.proofs.Common.{rules}
use Rattle.std.proofs.lemmas.List.Sorted.{answers_always}
use Rattle.net_nodes.specs.declared.first_place.FirstPlace.{FirstPlace}
use Rattle.net_nodes.proofs.FirstPlaceLemmas.{searched}
use Rattle.net_nodes.proofs.first_place.search.Goals as goal

pub returns : goal.returns
returns c =
    let facts = c.binary_search_by_key.ensures in
    let by_key = facts.position (λ (first : FirstPlace). first.epid.0) (answers_always _ _ _ (λ f a r g called. search rules)) in
    let both = searched c.args.order.now c.args.epid _ c.requires facts.bound by_key in
    record { found = both.0; gap = both.1 }
