-- A layout stays one of its graph as a block is placed and as two ports are connected.
use Rattle.std.proofs.Common.{◌≡◌, ◌∙◌, ℕ, zero, suc, ◌<◌, ◌^◌, inl, inr, refl, sym, ap, subst, List, [], ◌∷◌, ◌++◌, length, get_or, map, arith, Option, Some, None, unwrap_or}
use Rattle.std.specs.Prelude.{slice_get}
use Rattle.std.proofs.lemmas.Bool.{cases_lt}
use Rattle.std.proofs.lemmas.List.{length_push, map_push}
use Rattle.block_library.specs.declared.kind.BlockKind.{BlockKind}
use Rattle.chdr_words.specs.declared.epid.Epid.{Epid}
use Rattle.graph_core.specs.Derivation.{Diagram}
use Rattle.graph_core.specs.Ports.{ports_at}
use Rattle.graph_core.specs.declared.place.Edge.{Edge}
use Rattle.graph_core.specs.declared.place.PortAt.{PortAt}
use Rattle.graph_core.specs.declared.place.Side.TheVariants.{Into, Out}
use Rattle.net_machine.specs.Plans.{no_stream, no_epid}
use Rattle.net_machine.specs.declared.plan.StreamPlan.{StreamPlan}
use Rattle.net_topology.specs.declared.plan.Plan.{Plan}
use Rattle.stream_endpoint.specs.Flow.{IsValid}
use Rattle.run_plans.specs.Changes.{stream_between, with_block, with_stream}
use Rattle.run_plans.specs.Layouts.{FitsPlaced, FitsTerms, GoesAlong, IsLayout, StandIn, StandsIn, edge_at, in_at, laid_at, no_edge, no_placed, out_at}
use Rattle.run_plans.specs.Refusals.{CanConnect, IsFree}
use Rattle.run_plans.specs.declared.connect.Terms.{Terms}
use Rattle.run_plans.specs.declared.layout.Layout.{Layout}
use Rattle.run_plans.specs.declared.layout.PlacedBlock.{PlacedBlock}
use Rattle.run_plans.proofs.Ends.{apart_kept, end_kept}
use Rattle.run_plans.proofs.Lists.{Pushed, get_there, pushed}
use Rattle.run_plans.proofs.Lists.Pushed.{old, last, past}

no_end : (e : Epid) {P : Type 0} → ◌≡◌ {A = Option Epid} None (Some e) → P
no_end e is = absurd cc

-- nothing is a layout of a graph of nothing
pub new_layout : IsLayout (record { kinds = []; edges = []; users = [] }) (record { blocks = []; streams = [] })
new_layout = record {
  kinds = refl;
  blocks = λ b lt. absurd (omega arith);
  inputs = λ a b i j e p q. no_end e p;
  outputs = λ a b i j e p q. no_end e p;
  few = omega arith;
  edges = refl;
  along = λ s lt. absurd (omega arith);
  terms = λ s lt. absurd (omega arith);
  users = λ at value has. let lt = has.1 in absurd (omega arith);
}

-- each place of a longer list has what those of the list have, if the new item has it too
each_push : {A : Type 0} (P : A → Type 0) (xs : List A) (x d : A) → ((k : ℕ) → k < length xs → P (get_or xs k d)) → P x
    → (k : ℕ) → k < length (xs ++ x ∷ []) → P (get_or (xs ++ x ∷ []) k d)
each_push {A} P xs x d each new k lt = by (pushed xs x d k)
  where
    by : Pushed xs x d k → P (get_or (xs ++ x ∷ []) k d)
    by (old below is) = subst P (sym is) (each k below)
    by (last here is) = subst P (sym is) new
    by (past gt is) = let long = length_push xs x in absurd (omega arith)

module _ (layout : Layout) (block : PlacedBlock) where
  along_kept : (edge : Edge) (stream : StreamPlan) → GoesAlong layout edge stream → GoesAlong (with_block layout block) edge stream
  along_kept edge stream goes = record {
    from = end_kept (λ (b : PlacedBlock). b.outs) no_placed refl layout.blocks block edge.from.block edge.from.port stream.from goes.from;
    to = end_kept (λ (b : PlacedBlock). b.ins) no_placed refl layout.blocks block edge.to.block edge.to.port stream.to goes.to;
    differ = goes.differ;
  }

  pub placed_kept : (diagram : Diagram) → IsLayout diagram layout → FitsPlaced block → IsFree layout block
      → IsLayout (record diagram { kinds = diagram.kinds ++ block.kind ∷ [] }) (with_block layout block)
  placed_kept diagram ok fits free = record {
    kinds = map_push (λ (b : PlacedBlock). b.kind) layout.blocks block ∙ ap (λ (kinds : List BlockKind). kinds ++ block.kind ∷ []) ok.kinds;
    blocks = each_push FitsPlaced layout.blocks block no_placed ok.blocks fits;
    inputs = apart_kept (λ (b : PlacedBlock). b.ins) no_placed refl layout.blocks block ok.inputs free.ins;
    outputs = apart_kept (λ (b : PlacedBlock). b.outs) no_placed refl layout.blocks block ok.outputs free.outs;
    few = ok.few;
    edges = ok.edges;
    along = λ s lt. along_kept (edge_at diagram.edges s) (laid_at layout s) (ok.along s lt);
    terms = ok.terms;
    users = ok.users;
  }

  pub stands_kept : (tree : Plan) → StandIn tree layout → StandsIn tree block → StandIn tree (with_block layout block)
  stands_kept tree stand new = each_push (StandsIn tree) layout.blocks block no_placed stand new

-- a port of a block has an EPID
pub out_there : (blocks : List PlacedBlock) → ((b : ℕ) → b < length blocks → FitsPlaced (get_or blocks b no_placed)) → (b j : ℕ)
    → j < ports_at (map (λ (x : PlacedBlock). x.kind) blocks) b Out → (e : Epid) × (slice_get (get_or blocks b no_placed).outs j ≡ Some e)
out_there [] fits b j lt = absurd (omega arith)
out_there (x ∷ xs) fits zero j lt = let count = (fits 0 (omega arith)).outputs in get_there x.outs j (omega arith)
out_there (x ∷ xs) fits (suc b) j lt = out_there xs (λ k below. fits (suc k) (omega arith)) b j lt

pub in_there : (blocks : List PlacedBlock) → ((b : ℕ) → b < length blocks → FitsPlaced (get_or blocks b no_placed)) → (b i : ℕ)
    → i < ports_at (map (λ (x : PlacedBlock). x.kind) blocks) b Into → (e : Epid) × (slice_get (get_or blocks b no_placed).ins i ≡ Some e)
in_there [] fits b i lt = absurd (omega arith)
in_there (x ∷ xs) fits zero i lt = let count = (fits 0 (omega arith)).inputs in get_there x.ins i (omega arith)
in_there (x ∷ xs) fits (suc b) i lt = in_there xs (λ k below. fits (suc k) (omega arith)) b i lt

-- what is there is what stands for it
unwrapped : (o : Option Epid) (e : Epid) → o ≡ Some e → o ≡ Some (unwrap_or o no_epid)
unwrapped o e is = is ∙ ap Some (sym (ap (λ (x : Option Epid). unwrap_or x no_epid) is))

module _ (diagram : Diagram) (layout : Layout) (ok : IsLayout diagram layout) (from to : PortAt) (can : CanConnect diagram layout from to) (terms : Terms) where
  begin : out_at layout from.block from.port ≡ Some (unwrap_or (out_at layout from.block from.port) no_epid)
  begin = elim (cases_lt from.port (ports_at diagram.kinds from.block Out)) [
    | inl lt ↦
        let e = out_there layout.blocks ok.blocks from.block from.port (subst (λ (kinds : List BlockKind). from.port < ports_at kinds from.block Out) (sym ok.kinds) lt) in
        unwrapped (out_at layout from.block from.port) e.0 e.1
    | inr le ↦ absurd (can.joins.ports (inl le))
  ]

  end : in_at layout to.block to.port ≡ Some (unwrap_or (in_at layout to.block to.port) no_epid)
  end = elim (cases_lt to.port (ports_at diagram.kinds to.block Into)) [
    | inl lt ↦
        let e = in_there layout.blocks ok.blocks to.block to.port (subst (λ (kinds : List BlockKind). to.port < ports_at kinds to.block Into) (sym ok.kinds) lt) in
        unwrapped (in_at layout to.block to.port) e.0 e.1
    | inr le ↦ absurd (can.joins.ports (inr le))
  ]

  goes : GoesAlong layout (record { from = from; to = to }) (stream_between layout from to terms)
  goes = record {
    from = begin;
    to = end;
    differ = λ same. can.no_loop (unwrap_or (out_at layout from.block from.port) no_epid) (record { begins = begin; ends = end ∙ ap Some (sym same) });
  }

  along_push : (s : ℕ) → s < length (layout.streams ++ stream_between layout from to terms ∷ [])
      → GoesAlong layout (edge_at (diagram.edges ++ record { from = from; to = to } ∷ []) s) (get_or (layout.streams ++ stream_between layout from to terms ∷ []) s no_stream)
  along_push s lt = by (pushed layout.streams (stream_between layout from to terms) no_stream s) (pushed diagram.edges (record { from = from; to = to }) no_edge s)
    where
      by : Pushed layout.streams (stream_between layout from to terms) no_stream s → Pushed diagram.edges (record { from = from; to = to }) no_edge s
          → GoesAlong layout (edge_at (diagram.edges ++ record { from = from; to = to } ∷ []) s) (get_or (layout.streams ++ stream_between layout from to terms ∷ []) s no_stream)
      by (old below is) (old below' is') = rw (is, is') (ok.along s below)
      by (last here is) (last here' is') = rw (is, is') goes
      by (old below is) (last here is') = let many = ok.edges in absurd (omega arith)
      by (old below is) (past gt is') = let many = ok.edges in absurd (omega arith)
      by (last here is) (old below is') = let many = ok.edges in absurd (omega arith)
      by (last here is) (past gt is') = let many = ok.edges in absurd (omega arith)
      by (past gt is) other = let long = length_push layout.streams (stream_between layout from to terms) in absurd (omega arith)

  pub connected_kept : terms.start < 2 ^ 40 → IsValid terms.flow
      → IsLayout (record diagram { edges = diagram.edges ++ record { from = from; to = to } ∷ [] }) (with_stream layout from to terms)
  connected_kept start flow = record {
    kinds = ok.kinds;
    blocks = ok.blocks;
    inputs = ok.inputs;
    outputs = ok.outputs;
    few = let room = can.room in let long = length_push layout.streams (stream_between layout from to terms) in omega arith;
    edges = let long = length_push layout.streams (stream_between layout from to terms) in
        let long' = length_push diagram.edges (record { from = from; to = to }) in let many = ok.edges in omega arith;
    along = λ s lt. let new = along_push s lt in record { from = new.from; to = new.to; differ = new.differ };
    terms = each_push FitsTerms layout.streams (stream_between layout from to terms) no_stream ok.terms (record { start = start; flow = flow });
    users = ok.users;
  }
