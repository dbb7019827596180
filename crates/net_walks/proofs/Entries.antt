-- A new entry of one node's table changes nothing else.
use Rattle.std.proofs.Common.{◌≡◌, ◌==◌, ℕ, Bool, true, false, List, [], ◌∷◌, refl, ◌∙◌, ap, if◌then◌else◌}
use Rattle.std.specs.Prelude.{Some, ◌||◌}
use Rattle.std.proofs.lemmas.List.{get_or-set_other, get_or-set_same, length-set}
use Rattle.rf_base.proofs.Places.{one-set}
use Rattle.chdr_words.specs.declared.epid.Epid.{Epid}
use Rattle.net_nodes.specs.Table.{exit_of, has_place, with_exit}
use Rattle.net_nodes.specs.declared.table.Place.{Place}
use Rattle.net_nodes.proofs.Laws.{tables_are_maps}
use Rattle.net_machine.specs.State.{Node, blank, node_in}
use Rattle.net_walks.specs.Entries.{EntriesAreEntered}

-- tables keep their places
exit-places : (table : List Place) (epid other : Epid) (port : ℕ) → has_place (with_exit table epid port) other ≡ has_place table other
exit-places [] epid other port = refl
exit-places (place ∷ places) epid other port = by_test (exit-places places epid other port) (place.epid.0 == epid.0)
  where
    by_test : has_place (with_exit places epid port) other ≡ has_place places other →
        (b : Bool) → has_place (if b then record { epid = place.epid; exit = Some port } ∷ places else place ∷ with_exit places epid port) other
        ≡ has_place (place ∷ places) other
    by_test rest true = refl
    by_test rest false = ap (λ b. (place.epid.0 == other.0) || b) rest

pub are-entered : EntriesAreEntered
are-entered z epid port nodes = record {
  long = length-set nodes z n;
  elsewhere = λ y other. get_or-set_other nodes z y n blank other;
  places = λ y other. one-set {B = Node} (λ k l m. has_place l.table other ≡ has_place m.table other) nodes nodes blank blank n z
      (λ k. refl) (exit-places table epid other port) y;
  here = λ lt other. ap (λ (m : Node). exit_of m.table other) (get_or-set_same nodes z n blank lt) ∙ tables_are_maps table epid other port;
}
  where
    table : List Place
    table = (node_in nodes z).table

    n : Node
    n = record (node_in nodes z) { table = with_exit table epid port }
