-- A table that gets the port of each EPID, one after another.
use Rattle.std.proofs.Common.{◌≡◌, ℕ, zero, suc, ◌+◌, ◌<◌, Bool, false, List, [], ◌∷◌, ◌++◌, length, refl, sym, ◌∙◌, ap, get_or, take, drop, append_assoc, subst, Option, None, Some, arith, eq-eqb, ne_eqb}
use Rattle.std.specs.Prelude.{◌==◌, map, if◌then◌else◌}
use Rattle.std.specs.List.{filter_map}
use Rattle.std.proofs.lemmas.List.{append-nil, drop_all, drop_more, get_or_default, map-append, take_all, take_more}
use Rattle.chdr_words.specs.declared.epid.Epid.{Epid}
use Rattle.net_machine.specs.Begin.{epids_of, exit_to}
use Rattle.net_nodes.specs.Table.{no_exit, with_exit}
use Rattle.net_nodes.specs.declared.table.Place.{Place}
use Rattle.net_topology.specs.Tree.{IsTree, epid_at, epid_of}
use Rattle.net_topology.specs.declared.plan.NodePlan.{NodePlan}
use Rattle.net_topology.specs.declared.plan.NodePlan.TheVariants.{Crossbar, Adapter, Host, Endpoint}
use Rattle.net_topology.specs.declared.plan.Plan.{Plan}
use Rattle.net_topology.proofs.Laws.{epids_name_nodes}
use Rattle.fabric_nodes.specs.Shapes.{Shape, Switches, Ends, empty_table, shape_at}
use Rattle.fabric_lists.specs.Routed.{placed, routed_first, routed_table}

-- none of these EPIDs is this one
abbrev pub Misses : Epid → List Epid → Type 0
Misses e [] = Unit {0}
Misses e (d ∷ ds) = ((d.0 == e.0) ≡ false) × Misses e ds

-- this one is none of these
abbrev pub IsNew : Epid → List Epid → Type 0
IsNew e [] = Unit {0}
IsNew e (d ∷ ds) = ((e.0 == d.0) ≡ false) × IsNew e ds

-- no EPID comes twice
abbrev pub AreDistinct : List Epid → Type 0
AreDistinct [] = Unit {0}
AreDistinct (e ∷ es) = IsNew e es × AreDistinct es

new-at : (e : Epid) (es : List Epid) (i : ℕ) (d : Epid) → IsNew e es → i < length es → (e.0 == (get_or es i d).0) ≡ false
new-at e [] i d new there = absurd (omega arith)
new-at e (x ∷ xs) zero d new there = new.0
new-at e (x ∷ xs) (suc i) d new there = new-at e xs i d new.1 (omega arith)

pub misses-before : (es : List Epid) (i : ℕ) (d : Epid) → AreDistinct es → i < length es → Misses (get_or es i d) (take i es)
misses-before [] i d distinct there = absurd (omega arith)
misses-before (e ∷ es) zero d distinct there = tt
misses-before (e ∷ es) (suc i) d distinct there =
    (new-at e es i d distinct.0 (omega arith), misses-before es i d distinct.1 (omega arith))

apart : (e own : Epid) → (Some own ≡ Some e → ⊥) → (e.0 == own.0) ≡ false
apart e own h = ne_eqb e.0 own.0 (λ q. h (sym (ap (λ (n : ℕ). Some (let x : Epid = record { 0 = n } in x)) q)))

-- where no node has an EPID, it is new among those of the nodes
new-among : (e : Epid) (nodes : List NodePlan) → ((x : ℕ) → epid_at nodes x ≡ Some e → ⊥) → IsNew e (filter_map epid_of nodes)
new-among e [] none = tt
new-among e (Crossbar ports ∷ nodes) none = new-among e nodes (λ x. none (suc x))
new-among e (Adapter ∷ nodes) none = new-among e nodes (λ x. none (suc x))
new-among e (Host own ∷ nodes) none = (apart e own (none 0), new-among e nodes (λ x. none (suc x)))
new-among e (Endpoint own bank ∷ nodes) none = (apart e own (none 0), new-among e nodes (λ x. none (suc x)))

-- no two nodes have one EPID
abbrev NoneTwice : List NodePlan → Type 0
NoneTwice nodes = (x y : ℕ) (e : Epid) → y < x → epid_at nodes y ≡ Some e → epid_at nodes x ≡ Some e → ⊥

distinct-among : (nodes : List NodePlan) → NoneTwice nodes → AreDistinct (filter_map epid_of nodes)
distinct-among [] none = tt
distinct-among (Crossbar ports ∷ nodes) none = distinct-among nodes (λ x y e l. none (suc x) (suc y) e (omega (arith, l)))
distinct-among (Adapter ∷ nodes) none = distinct-among nodes (λ x y e l. none (suc x) (suc y) e (omega (arith, l)))
distinct-among (Host own ∷ nodes) none =
    (new-among own nodes (λ x. none (suc x) 0 own (omega arith) refl), distinct-among nodes (λ x y e l. none (suc x) (suc y) e (omega (arith, l))))
distinct-among (Endpoint own bank ∷ nodes) none =
    (new-among own nodes (λ x. none (suc x) 0 own (omega arith) refl), distinct-among nodes (λ x y e l. none (suc x) (suc y) e (omega (arith, l))))

none-twice : (tree : Plan) → IsTree tree → NoneTwice tree.nodes
none-twice tree is x y e l p q =
    let one : Some y ≡ Some x = sym ((epids_name_nodes tree is y e).1 p) ∙ (epids_name_nodes tree is x e).1 q in
    let same : y ≡ x = cc in
    omega (arith, l)

pub tree-distinct : (tree : Plan) → IsTree tree → AreDistinct (epids_of tree)
tree-distinct tree is = distinct-among tree.nodes (none-twice tree is)

-- a port is entered at the place of its EPID
entered : (exit : Epid → Option ℕ) (done : List Epid) (e : Epid) (rest : List Place) (port : ℕ) → Misses e done
    → with_exit (map (placed exit) done ++ no_exit e ∷ rest) e port ≡ map (placed exit) done ++ record { epid = e; exit = Some port } ∷ rest
entered exit [] e rest port misses =
    ap (λ (b : Bool). if b then record { epid = e; exit = Some port } ∷ rest else no_exit e ∷ with_exit rest e port) (eq-eqb e.0 e.0 refl)
entered exit (d ∷ ds) e rest port misses =
    ap (λ (b : Bool). if b then record { epid = d; exit = Some port } ∷ (map (placed exit) ds ++ no_exit e ∷ rest)
    else placed exit d ∷ with_exit (map (placed exit) ds ++ no_exit e ∷ rest) e port) misses.0
    ∙ ap (λ ps. placed exit d ∷ ps) (entered exit ds e rest port misses.1)

-- one EPID more has its place
one-placed : (exit : Epid → Option ℕ) (es : List Epid) (i : ℕ) (e : Epid) (rest : List Place) → i < length es → e ≡ get_or es i e
    → map (placed exit) (take i es) ++ placed exit e ∷ rest ≡ map (placed exit) (take (i + 1) es) ++ rest
one-placed exit es i e rest there is =
    let more : take (i + 1) es ≡ take i es ++ e ∷ [] = take_more es i e there ∙ ap (λ (d : Epid). take i es ++ d ∷ []) (sym is) in
    sym (append_assoc (map (placed exit) (take i es)) (placed exit e ∷ []) rest)
    ∙ ap (λ ps. ps ++ rest) (sym (map-append (placed exit) (take i es) (e ∷ [])))
    ∙ ap (λ ds. map (placed exit) ds ++ rest) (sym more)

module _ (exit : Epid → Option ℕ) (es : List Epid) (i : ℕ) (e : Epid) (there : i < length es) (is : e ≡ get_or es i e) where
  left : map no_exit (drop i es) ≡ no_exit e ∷ map no_exit (drop (i + 1) es)
  left = ap (map no_exit) (drop_more es i e there ∙ ap (λ (d : Epid). d ∷ drop (i + 1) es) (sym is))

  -- so it is where its port was entered, and where it has none
  pub entered-next : (shape : Shape) (port : ℕ) → Misses e (take i es) → exit e ≡ Some port
      → with_exit (routed_first shape exit es i) e port ≡ routed_first shape exit es (i + 1)
  entered-next (Ends node) port misses has = refl
  entered-next (Switches kind instance ports linked) port misses has =
      ap (λ ps. with_exit (map (placed exit) (take i es) ++ ps) e port) left
      ∙ entered exit (take i es) e (map no_exit (drop (i + 1) es)) port misses
      ∙ ap (λ (o : Option ℕ). map (placed exit) (take i es) ++ record { epid = e; exit = o } ∷ map no_exit (drop (i + 1) es)) (sym has)
      ∙ one-placed exit es i e (map no_exit (drop (i + 1) es)) there is

  pub none-next : (shape : Shape) → exit e ≡ None → routed_first shape exit es i ≡ routed_first shape exit es (i + 1)
  none-next (Ends node) has = refl
  none-next (Switches kind instance ports linked) has =
      ap (λ ps. map (placed exit) (take i es) ++ ps) left
      ∙ ap (λ (o : Option ℕ). map (placed exit) (take i es) ++ record { epid = e; exit = o } ∷ map no_exit (drop (i + 1) es)) (sym has)
      ∙ one-placed exit es i e (map no_exit (drop (i + 1) es)) there is

-- at first none has its port, and at last each one
pub routed-none : (shape : Shape) (exit : Epid → Option ℕ) (es : List Epid) → empty_table shape es ≡ routed_first shape exit es 0
routed-none (Ends node) exit es = refl
routed-none (Switches kind instance ports linked) exit es = refl

pub routed-all : (shape : Shape) (exit : Epid → Option ℕ) (es : List Epid) (i : ℕ) → i ≡ length es
    → routed_first shape exit es i ≡ routed_table shape exit es
routed-all (Ends node) exit es i all = refl
routed-all (Switches kind instance ports linked) exit es i all =
    ap (λ ds. map (placed exit) ds ++ map no_exit (drop i es)) (take_all i es (omega arith))
    ∙ ap (λ ds. map (placed exit) es ++ map no_exit ds) (drop_all i es (omega arith))
    ∙ append-nil (map (placed exit) es)

-- the EPIDs of a tree get their ports, one after another
module _ (tree : Plan) (x : ℕ) (epids items : List Epid) (i : ℕ) (none : Epid) (table : List Place) (is : IsTree tree) (all : epids ≡ epids_of tree) (same : items ≡ epids) (there : i < length items) (before : table ≡ routed_first (shape_at tree x) (exit_to tree x) epids i) where
  within : i < length epids
  within = subst (λ (es : List Epid). i < length es) same there

  here : get_or epids i none ≡ get_or epids i (get_or epids i none)
  here = get_or_default epids i none (get_or epids i none) within

  pub port-entered : (port : ℕ) → exit_to tree x (get_or items i none) ≡ Some port
      → with_exit table (get_or items i none) port ≡ routed_first (shape_at tree x) (exit_to tree x) epids (i + 1)
  port-entered port has =
      let item : get_or items i none ≡ get_or epids i none = ap (λ (es : List Epid). get_or es i none) same in
      let distinct : AreDistinct epids = subst AreDistinct (sym all) (tree-distinct tree is) in
      let port_is : exit_to tree x (get_or epids i none) ≡ Some port = ap (exit_to tree x) (sym item) ∙ has in
      ap (λ (ps : List Place). with_exit ps (get_or items i none) port) before
      ∙ ap (λ (e : Epid). with_exit (routed_first (shape_at tree x) (exit_to tree x) epids i) e port) item
      ∙ entered-next (exit_to tree x) epids i (get_or epids i none) within here (shape_at tree x) port (misses-before epids i none distinct within) port_is

  pub none-entered : exit_to tree x (get_or items i none) ≡ None → table ≡ routed_first (shape_at tree x) (exit_to tree x) epids (i + 1)
  none-entered has =
      let item : get_or items i none ≡ get_or epids i none = ap (λ (es : List Epid). get_or es i none) same in
      before ∙ none-next (exit_to tree x) epids i (get_or epids i none) within here (shape_at tree x) (ap (exit_to tree x) (sym item) ∙ has)
