-- The place that a search finds.
use Rattle.std.proofs.Common.{◌≡◌, ℕ, Bool, true, false, cond, List, length, refl, sym, ap, arith}
use Rattle.std.specs.Prelude.{Option, Some, None, nat_lt, position, unwrap_or}
use Rattle.std.proofs.lemmas.Bool.{ltb-false}
use Rattle.std.proofs.lemmas.List.Sums.{prefix_len-le-length}
use Rattle.std.specs.Prelude.{not}
use Rattle.walk_books.specs.declared.found.FoundNode.{FoundNode}
use Rattle.found_nodes.specs.Found.{is_number, place_of}

pub place-found : (nodes : List FoundNode) (x place : ℕ) → position (is_number x) nodes ≡ Some place → place ≡ place_of nodes x
place-found nodes x place is = by_test (nat_lt (place_of nodes x) (length nodes)) is
  where
    by_test : (b : Bool) → cond b (Some (place_of nodes x)) None ≡ Some place → place ≡ place_of nodes x
    by_test true h = ap (λ (o : Option ℕ). unwrap_or o place) (sym h)
    by_test false h = let z : ◌≡◌ {A = Option ℕ} None (Some place) = h in absurd cc

pub place-missed : (nodes : List FoundNode) (x : ℕ) → position (is_number x) nodes ≡ None → length nodes ≡ place_of nodes x
place-missed nodes x is = by_test (nat_lt (place_of nodes x) (length nodes)) refl is
  where
    by_test : (b : Bool) → nat_lt (place_of nodes x) (length nodes) ≡ b → cond b (Some (place_of nodes x)) None ≡ None → length nodes ≡ place_of nodes x
    by_test true test h = let z : ◌≡◌ {A = Option ℕ} (Some (place_of nodes x)) None = h in absurd cc
    by_test false test h = omega (arith, ltb-false (place_of nodes x) (length nodes) test, prefix_len-le-length (λ (f : FoundNode). not (is_number x f)) nodes)
