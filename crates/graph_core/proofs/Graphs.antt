-- Each change of a graph keeps what holds of every graph.
use Rattle.std.proofs.Common.{◌≡◌, ◌≢◌, ◌∙◌, ℕ, ◌<◌, ◌≤◌, ◌⊎◌, inl, inr, ⊎_elim, refl, sym, subst, List, [], ◌∷◌, ◌++◌, length, map, Bool, true, false, eqb, Contains, arith, length-append}
use Rattle.std.specs.List.{list_any, IsDistinct}
use Rattle.std.proofs.lemmas.List.{map-append, length-map}
use Rattle.std.proofs.lemmas.Bool.{cases_lt}
use Rattle.std.proofs.lemmas.Cmp.{nat_eq_equiv}
use Rattle.std.proofs.lemmas.Map.Keys.{IsDistinct-push}
use Rattle.std.proofs.lemmas.List.Elements.{All-push, All-weaker, All-contains, All-nil, Contains-push_cases}
use Rattle.block_library.specs.declared.kind.BlockKind.{BlockKind}
use Rattle.block_library.specs.Blocks.{FitsKind}
use Rattle.graph_core.specs.declared.place.Side.TheVariants.{Into, Out}
use Rattle.graph_core.specs.declared.place.PortAt.{PortAt}
use Rattle.graph_core.specs.declared.place.PropAt.{PropAt}
use Rattle.graph_core.specs.declared.place.Edge.{Edge}
use Rattle.graph_core.specs.Derivation.{Settles}
use Rattle.graph_core.specs.Edges.{Reaches, IsAcyclic, IsJoined, port_number}
use Rattle.graph_core.specs.Edges.Reaches.{here, along}
use Rattle.graph_core.specs.Pairs.{Pair, IsPut}
use Rattle.graph_core.specs.Ports.{ports_at, IsProperty}
use Rattle.graph_core.specs.Refusals.{IsFree}
use Rattle.graph_core.specs.State.{IsGraph, state}
use Rattle.graph_core.proofs.Derived.{one_value}
use Rattle.graph_core.proofs.Places.{any_item, few_items, more_ports, same_port, number_below, ports_at_two}

none_in : {X : Type 0} (x : X) → Contains [] x → ⊥
none_in x h = omega arith

pub new_graph : IsGraph (state [] [] [] [] false)
unfolding IsDistinct
new_graph = record {
  diagram = record {
    few = omega arith;
    kinds = All-nil _;
    joined = All-nil _;
    outputs = tt;
    inputs = tt;
    acyclic = λ edge has _. none_in edge has;
    users = λ at value has. absurd (none_in (at, value) has);
    single = λ at one other a b. absurd (none_in (at, one) a);
  };
  once = λ at one other a b. absurd (none_in (at, one) a);
  settled = λ e. let z : false ≡ true = e in cc;
}

-- an edge that was added to the list is used last by a way, or not at all
by_new : (edges : List Edge) (new : Edge) {a b : ℕ} → Reaches (edges ++ new ∷ []) a b → Reaches edges a b ⊎ (Reaches edges a new.from.block × Reaches edges new.to.block b)
by_new edges new here = inl here
by_new edges new {a} {b} (along edge has at rest) = first (by_new edges new rest) (Contains-push_cases edges new edge has)
  where
    first : Reaches edges edge.to.block b ⊎ (Reaches edges edge.to.block new.from.block × Reaches edges new.to.block b) → Contains edges edge ⊎ (new ≡ edge)
        → Reaches edges a b ⊎ (Reaches edges a new.from.block × Reaches edges new.to.block b)
    first (inl way) (inl old) = inl (along edge old at way)
    first (inl way) (inr same) = inr (subst (λ e. Reaches edges a e.from.block) (sym same) (subst (λ x. Reaches edges x edge.from.block) at here), subst (λ e. Reaches edges e.to.block b) (sym same) way)
    first (inr ways) (inl old) = inr (along edge old at ways.0, ways.1)
    first (inr ways) (inr same) = inr (subst (λ e. Reaches edges a e.from.block) (sym same) (subst (λ x. Reaches edges x edge.from.block) at here), ways.1)

joined_ways : (edges : List Edge) {a b c : ℕ} → Reaches edges a b → Reaches edges b c → Reaches edges a c
joined_ways edges here more = more
joined_ways edges (along edge has at rest) more = along edge has at (joined_ways edges rest more)

acyclic_push : (edges : List Edge) (new : Edge) → IsAcyclic edges → (Reaches edges new.to.block new.from.block → ⊥) → IsAcyclic (edges ++ new ∷ [])
acyclic_push edges new old back edge has way = by (Contains-push_cases edges new edge has) (by_new edges new way)
  where
    by : Contains edges edge ⊎ (new ≡ edge) → Reaches edges edge.to.block edge.from.block ⊎ (Reaches edges edge.to.block new.from.block × Reaches edges new.to.block edge.from.block) → ⊥
    by (inl there) (inl w) = old edge there w
    by (inl there) (inr ws) = back (joined_ways edges ws.1 (along edge there refl ws.0))
    by (inr same) (inl w) = back (subst (λ e. Reaches edges e.to.block e.from.block) (sym same) w)
    by (inr same) (inr ws) = back (subst (λ e. Reaches edges new.to.block e.from.block) (sym same) ws.1)

le_or_lt : (a b : ℕ) → (a ≤ b) ⊎ (b < a)
le_or_lt a b = ⊎_elim (λ lt. inr lt) (λ le. inl le) (cases_lt b a)

module _ (kinds : List BlockKind) (edges : List Edge) (users committed : List Pair) (mark : Bool) (ok : IsGraph (state kinds edges users committed mark)) where
  more : (kind : BlockKind) → (edge : Edge) → IsJoined kinds edge → IsJoined (kinds ++ kind ∷ []) edge
  more kind edge j = record {
    from = let m = more_ports kinds kind edge.from.block Out in let a = j.from in omega arith;
    to = let m = more_ports kinds kind edge.to.block Into in let a = j.to in omega arith;
  }

  pub add_kept : (kind : BlockKind) → length kinds < 32 → FitsKind kind → IsGraph (state (kinds ++ kind ∷ []) edges users committed false)
  add_kept kind room fits = record {
    diagram = record {
      few = simp length-append (omega arith);
      kinds = All-push FitsKind kinds kind ok.diagram.kinds fits;
      joined = All-weaker (IsJoined kinds) (IsJoined (kinds ++ kind ∷ [])) (more kind) edges ok.diagram.joined;
      outputs = ok.diagram.outputs;
      inputs = ok.diagram.inputs;
      acyclic = ok.diagram.acyclic;
      users = λ at value has. let m = more_ports kinds kind at.block at.side in let a = ok.diagram.users at value has in omega arith;
      single = ok.diagram.single;
    };
    once = ok.once;
    settled = λ e. let z : false ≡ true = e in cc;
  }

  single_put : (new : List Pair) (at : PropAt) (value : ℕ) → IsPut users new at value → (q : PropAt) (u w : ℕ)
      → ((q ≡ at) × (u ≡ value)) ⊎ ((q ≢ at) × Contains users (q, u)) → ((q ≡ at) × (w ≡ value)) ⊎ ((q ≢ at) × Contains users (q, w)) → u ≡ w
  single_put new at value put q u w (inl a) (inl b) = a.1 ∙ sym b.1
  single_put new at value put q u w (inl a) (inr b) = absurd (b.0 a.0)
  single_put new at value put q u w (inr a) (inl b) = absurd (a.0 b.0)
  single_put new at value put q u w (inr a) (inr b) = ok.diagram.single q u w a.1 b.1

  pub set_kept : (new : List Pair) (at : PropAt) (value : ℕ) → at.port < ports_at kinds at.block at.side → IsPut users new at value → IsGraph (state kinds edges new committed false)
  set_kept new at value property put = record {
    diagram = record {
      few = ok.diagram.few;
      kinds = ok.diagram.kinds;
      joined = ok.diagram.joined;
      outputs = ok.diagram.outputs;
      inputs = ok.diagram.inputs;
      acyclic = ok.diagram.acyclic;
      users = λ q u has. ⊎_elim (λ same. subst (IsProperty kinds) (sym same.0) property) (λ other. ok.diagram.users q u other.1) (put.only q u has);
      single = λ q u w a b. single_put new at value put q u w (put.only q u a) (put.only q w b);
    };
    once = ok.once;
    settled = λ e. let z : false ≡ true = e in cc;
  }

  pub few_edges : length edges ≤ 64
  few_edges = subst (λ n. n ≤ 64) (length-map edges (λ edge. port_number edge.to)) (few_items (λ edge. port_number edge.to) edges 64 ok.diagram.inputs
      (λ edge has. number_below kinds Into edge.to ok.diagram.few (All-contains (IsJoined kinds) edges edge ok.diagram.joined has).to))

  -- an edge at a port that has none is told by the port's number
  unused : (f : Edge → PortAt) → ((edge : Edge) → Contains edges edge → (f edge).port < 2) → (at : PortAt) → at.port < 2
      → ((edge : Edge) → Contains edges edge → f edge ≡ at → ⊥) → list_any (eqb (port_number at)) (map (λ edge. port_number (f edge)) edges) ≡ false
  unused f small at two free = by (list_any (eqb (port_number at)) (map (λ edge. port_number (f edge)) edges)) refl
    where
      by : (b : Bool) → list_any (eqb (port_number at)) (map (λ edge. port_number (f edge)) edges) ≡ b → b ≡ false
      by true e = let r = any_item (λ edge. port_number (f edge)) edges (port_number at) e in
          absurd (free r.0 r.1 (sym (same_port at (f r.0) two (small r.0 r.1) r.2)))
      by false e = refl

  distinct_push : (f : Edge → PortAt) → ((edge : Edge) → Contains edges edge → (f edge).port < 2) → (new : Edge) → (f new).port < 2
      → ((edge : Edge) → Contains edges edge → f edge ≡ f new → ⊥)
      → IsDistinct eqb (map (λ edge. port_number (f edge)) edges) → IsDistinct eqb (map (λ edge. port_number (f edge)) (edges ++ new ∷ []))
  distinct_push f small new two free distinct = subst (IsDistinct eqb) (sym (map-append (λ edge. port_number (f edge)) edges (new ∷ [])))
      (IsDistinct-push nat_eq_equiv (map (λ edge. port_number (f edge)) edges) (port_number (f new)) distinct (unused f small (f new) two free))

  output_small : (edge : Edge) → Contains edges edge → edge.from.port < 2
  output_small edge has = let j = (All-contains (IsJoined kinds) edges edge ok.diagram.joined has).from in let two = ports_at_two kinds edge.from.block Out in omega arith

  input_small : (edge : Edge) → Contains edges edge → edge.to.port < 2
  input_small edge has = let j = (All-contains (IsJoined kinds) edges edge ok.diagram.joined has).to in let two = ports_at_two kinds edge.to.block Into in omega arith

  pub connect_kept : (from to : PortAt) → IsFree kinds edges from to → IsGraph (state kinds (edges ++ record { from = from; to = to } ∷ []) users committed false)
  connect_kept from to free =
      let out : from.port < ports_at kinds from.block Out = elim (le_or_lt (ports_at kinds from.block Out) from.port) [ inl le ↦ absurd (free.ports (inl le)) | inr lt ↦ lt ] in
      let into : to.port < ports_at kinds to.block Into = elim (le_or_lt (ports_at kinds to.block Into) to.port) [ inl le ↦ absurd (free.ports (inr le)) | inr lt ↦ lt ] in
      let two = ports_at_two kinds from.block Out in
      let two' = ports_at_two kinds to.block Into in
      let new : Edge = record { from = from; to = to } in
      record {
        diagram = record {
          few = ok.diagram.few;
          kinds = ok.diagram.kinds;
          joined = All-push (IsJoined kinds) edges new ok.diagram.joined (record { from = out; to = into });
          outputs = distinct_push (λ e. e.from) output_small new (omega arith) (λ e has same. free.free (e, has, inl same)) ok.diagram.outputs;
          inputs = distinct_push (λ e. e.to) input_small new (omega arith) (λ e has same. free.free (e, has, inr same)) ok.diagram.inputs;
          acyclic = acyclic_push edges new ok.diagram.acyclic free.acyclic;
          users = ok.diagram.users;
          single = ok.diagram.single;
        };
        once = ok.once;
        settled = λ e. let z : false ≡ true = e in cc;
      }

  pub settle_kept : (values : List Pair) → Settles (state kinds edges users committed mark).diagram values → IsGraph (state kinds edges users values true)
  settle_kept values settles = record {
    diagram = ok.diagram;
    once = one_value (state kinds edges users committed mark).diagram values settles.closed.derivation;
    settled = λ _. settles;
  }
