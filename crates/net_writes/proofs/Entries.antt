-- What new entries of a node's table change in what the tables of all nodes tell.
use Rattle.std.proofs.Common.{◌≡◌, ◌≢◌, ◌==◌, ℕ, ◌<◌, inl, inr, Bool, true, false, List, length, refl, sym, ◌∙◌, ap, subst, set, eq-eqb, if◌then◌else◌}
use Rattle.std.specs.Prelude.{Some, ◌&&◌}
use Rattle.std.proofs.lemmas.Bool.{cases_eq, eqb-true, ne_eqb}
use Rattle.std.proofs.lemmas.List.{get_or-set_same, set-set}
use Rattle.chdr_words.specs.declared.epid.Epid.{Epid}
use Rattle.net_nodes.specs.Table.{exit_of, has_place, with_exit}
use Rattle.net_topology.specs.declared.plan.Plan.{Plan}
use Rattle.net_machine.specs.Nodes.{exits_of}
use Rattle.net_machine.specs.State.{Node, blank, node_in}
use Rattle.net_lone.specs.Stages.{HavePlaces}
use Rattle.net_walks.specs.Entries.{entered}
use Rattle.net_walks.proofs.Laws.{entries_are_entered}
use Rattle.net_writes.specs.Crossings.{Crossing, crossed_at}

pub epids-same : (a b : Epid) → a.0 ≡ b.0 → a ≡ b
epids-same a b is = λ i. record { 0 = is i }

pub entered-long : (z : ℕ) (epid : Epid) (port : ℕ) (nodes : List Node) → length (entered z epid port nodes) ≡ length nodes
entered-long z epid port nodes = (entries_are_entered z epid port nodes).long

pub entered-place : (z : ℕ) (epid : Epid) (port : ℕ) (nodes : List Node) (other : Epid) (y : ℕ) →
    has_place (node_in (entered z epid port nodes) y).table other ≡ has_place (node_in nodes y).table other
entered-place z epid port nodes other y = (entries_are_entered z epid port nodes).places y other

pub entered-places : (tree : Plan) (z : ℕ) (epid : Epid) (port : ℕ) (nodes : List Node) → HavePlaces tree nodes → HavePlaces tree (entered z epid port nodes)
entered-places tree z epid port nodes have x y other switch is = entered-place z epid port nodes other x ∙ have x y other switch is

-- other nodes are as they were
pub entered-elsewhere : (z : ℕ) (epid : Epid) (port : ℕ) (nodes : List Node) (y : ℕ) → y ≢ z → node_in (entered z epid port nodes) y ≡ node_in nodes y
entered-elsewhere z epid port nodes = (entries_are_entered z epid port nodes).elsewhere

-- the entries of the node
entered-at : (z : ℕ) (epid : Epid) (port : ℕ) (nodes : List Node) → z < length nodes → (other : Epid) →
    exits_of (entered z epid port nodes) z other
    ≡ (if other.0 == epid.0 && has_place (node_in nodes z).table epid then Some port else exits_of nodes z other)
entered-at z epid port nodes = (entries_are_entered z epid port nodes).here

-- it has the new one
pub entered-here : (z : ℕ) (epid : Epid) (port : ℕ) (nodes : List Node) → z < length nodes → has_place (node_in nodes z).table epid ≡ true →
    exits_of (entered z epid port nodes) z epid ≡ Some port
entered-here z epid port nodes lt has =
    entered-at z epid port nodes lt epid ∙ (λ i. if same i && has i then Some port else exits_of nodes z epid)
  where
    same : (epid.0 == epid.0) ≡ true
    same = eq-eqb epid.0 epid.0 refl

-- and those of other EPIDs
pub entered-other : (z : ℕ) (epid : Epid) (port : ℕ) (nodes : List Node) → z < length nodes → (y : ℕ) (other : Epid) → other ≢ epid →
    exits_of (entered z epid port nodes) y other ≡ exits_of nodes y other
entered-other z epid port nodes lt y other unlike = elim (cases_eq y z) [
  | inl here ↦ subst (λ (x : ℕ). exits_of (entered z epid port nodes) x other ≡ exits_of nodes x other) (sym here)
      (entered-at z epid port nodes lt other
      ∙ ap (λ b. if b && has_place (node_in nodes z).table epid then Some port else exits_of nodes z other)
      (ne_eqb other.0 epid.0 (λ same. unlike (epids-same other epid same))))
  | inr there ↦ ap (λ (n : Node). exit_of n.table other) (entered-elsewhere z epid port nodes y there)
]

-- an entry lasts, unless another port is written for it
pub entry-lasts : (z : ℕ) (epid : Epid) (port : ℕ) (nodes : List Node) → z < length nodes → (y : ℕ) (other : Epid) (to : ℕ) →
    (y ≡ z → other ≡ epid → port ≡ to) → exits_of nodes y other ≡ Some to → exits_of (entered z epid port nodes) y other ≡ Some to
entry-lasts z epid port nodes lt y other to alike is = elim (cases_eq y z) [
  | inl here ↦ subst (λ (x : ℕ). exits_of (entered z epid port nodes) x other ≡ Some to) (sym here)
      (entered-at z epid port nodes lt other ∙ by_test (λ same. alike here same) (subst (λ (x : ℕ). exits_of nodes x other ≡ Some to) here is)
      (other.0 == epid.0) refl (has_place (node_in nodes z).table epid))
  | inr there ↦ ap (λ (n : Node). exit_of n.table other) (entered-elsewhere z epid port nodes y there) ∙ is
]
  where
    by_test : (other ≡ epid → port ≡ to) → exits_of nodes z other ≡ Some to → (b : Bool) → (other.0 == epid.0) ≡ b → (c : Bool) →
        (if b && c then Some port else exits_of nodes z other) ≡ Some to
    by_test same old true test true = ap (λ p. Some p) (same (epids-same other epid (eqb-true other.0 epid.0 test)))
    by_test same old true test false = old
    by_test same old false test c = old

-- the entries of a route at a node are two entries
pub crossed-twice : (z : ℕ) (it : Crossing) (nodes : List Node) → z < length nodes → crossed_at z it nodes ≡ entered z it.a it.to_a (entered z it.b it.to_b nodes)
crossed-twice z it nodes lt =
    let here : node_in (set nodes z n) z ≡ n = get_or-set_same nodes z n blank lt in
    sym ((λ i. set (set nodes z n) z (record (here i) { table = with_exit (here i).table it.a it.to_a }))
    ∙ set-set nodes z n (record n { table = with_exit n.table it.a it.to_a }))
  where
    n : Node
    n = record (node_in nodes z) { table = with_exit (node_in nodes z).table it.b it.to_b }
