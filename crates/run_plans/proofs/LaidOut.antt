-- The plan that a layout makes of a settled graph has all that a run needs but what is tested as it begins.
use Rattle.std.proofs.Common.{◌≡◌, ◌≢◌, ◌∙◌, ℕ, ◌<◌, ◌≤◌, ◌⊎◌, inl, inr, refl, sym, ap, subst, List, true, false, eqb, eq-eqb, length, get_or, map, arith, Contains, Some}
use Rattle.std.specs.List.{IsDistinct}
use Rattle.std.proofs.lemmas.Bool.{cases_lt}
use Rattle.std.proofs.lemmas.List.{get_or_past, get_or-map, length-map}
use Rattle.std.proofs.lemmas.List.Elements.{All-contains, Contains-get_or}
use Rattle.std.proofs.lemmas.Map.Keys.{apart_from_distinct}
use Rattle.std.proofs.lemmas.Option.{same_Some}
use Rattle.block_library.specs.declared.kind.BlockKind.{BlockKind}
use Rattle.chdr_words.specs.declared.epid.Epid.{Epid}
use Rattle.graph_core.specs.Derivation.{Diagram, Settles}
use Rattle.graph_core.specs.Edges.{IsJoined, port_number, Reaches as Joins}
use Rattle.graph_core.specs.Edges.Reaches.{here as stays, along as over}
use Rattle.graph_core.specs.Pairs.{Pair}
use Rattle.graph_core.specs.Ports.{port_count, ports_at}
use Rattle.graph_core.specs.State.{IsDiagram}
use Rattle.graph_core.specs.declared.place.Edge.{Edge}
use Rattle.graph_core.specs.declared.place.PortAt.{PortAt}
use Rattle.graph_core.specs.declared.place.Prop.{Prop}
use Rattle.graph_core.specs.declared.place.Prop.TheVariants.{Rate, Item, Spp}
use Rattle.net_machine.specs.CanBegin.{AreApart, EachBlock, EachStream, FitsBlock, HaveOneForm, HaveOwnEnds, KeepsForm, NeverReturns, Reaches, StandsAt, from_of, input_at, output_at, to_of}
use Rattle.net_machine.specs.CanBegin.Reaches.{here, along}
use Rattle.net_machine.specs.Plans.{block_at, consumer_of, no_block, no_epid, no_stream, plan_at, producer_of}
use Rattle.net_machine.specs.declared.plan.BlockPlan.{BlockPlan}
use Rattle.net_machine.specs.declared.plan.RunPlan.{RunPlan}
use Rattle.net_machine.specs.declared.plan.StreamPlan.{StreamPlan}
use Rattle.net_topology.specs.declared.plan.Plan.{Plan}
use Rattle.net_faults.specs.declared.fault.Fault.{Fault}
use Rattle.run_plans.specs.Layouts.{IsLayout, StandIn, edge_at, in_at, no_edge, no_placed, out_at, placed_at}
use Rattle.run_plans.specs.Planned.{first_side, plan_of, planned_at}
use Rattle.run_plans.specs.RunRefusals.{IsLaidOut}
use Rattle.run_plans.specs.declared.layout.Layout.{Layout}
use Rattle.run_plans.specs.declared.layout.PlacedBlock.{PlacedBlock}
use Rattle.run_plans.proofs.Ends.{end-found, found-end, is_there, order}
use Rattle.run_plans.proofs.Forms.{edge_value, fitting_value, first_there}
use Rattle.run_plans.proofs.Lists.{some_from}
use Rattle.run_plans.proofs.PlanEnds.{blocks-few, kind_at, plan-block, plan-blocks, plan-input, plan-output}

-- items with different numbers stand at different places
same_place : {A : Type 0} (f : A → ℕ) (xs : List A) (d : A) (i j : ℕ) → IsDistinct eqb (map f xs) → i < length xs → j < length xs
    → f (get_or xs i d) ≡ f (get_or xs j d) → i ≡ j
same_place {A} f xs d i j distinct lt lt' same = by (order i j)
  where
    at : (k : ℕ) → k < length xs → get_or (map f xs) k 0 ≡ f (get_or xs k d)
    at k below = get_or-map f xs k d 0 below

    clash : (k l : ℕ) → k < l → k < length xs → l < length xs → f (get_or xs k d) ≡ f (get_or xs l d) → ⊥
    clash k l less below below' e =
        let long = length-map xs f in
        let no : eqb (get_or (map f xs) k 0) (get_or (map f xs) l 0) ≡ false = apart_from_distinct eqb (map f xs) k l 0 distinct less (omega arith) in
        let yes : eqb (get_or (map f xs) k 0) (get_or (map f xs) l 0) ≡ true = eq-eqb _ _ (at k below ∙ e ∙ sym (at l below')) in
        let z : true ≡ false = sym yes ∙ no in
        absurd cc

    by : (i ≡ j) ⊎ ((i < j) ⊎ (j < i)) → i ≡ j
    by (inl is) = is
    by (inr (inl less)) = absurd (clash i j less lt lt' same)
    by (inr (inr more)) = absurd (clash j i more lt' lt (sym same))

module _ (diagram : Diagram) (layout : Layout) (committed : List Pair) (faults : List Fault)
    (graph : IsDiagram diagram) (ok : IsLayout diagram layout) (settles : Settles diagram committed) where
  abbrev plan : RunPlan
  plan = plan_of layout committed faults

  length_is : length plan.blocks ≡ length layout.blocks
  length_is = plan-blocks layout committed faults

  block_is : (b : ℕ) → b < length layout.blocks → block_at plan b ≡ planned_at layout committed b
  block_is = plan-block layout committed faults

  input_is : (b i : ℕ) → input_at plan b i ≡ in_at layout b i
  input_is = plan-input layout committed faults

  output_is : (b j : ℕ) → output_at plan b j ≡ out_at layout b j
  output_is = plan-output layout committed faults

  inputs_apart : AreApart (input_at plan)
  inputs_apart a b i j e p q = ok.inputs a b i j e (sym (input_is a i) ∙ p) (sym (input_is b j) ∙ q)

  outputs_apart : AreApart (output_at plan)
  outputs_apart a b i j e p q = ok.outputs a b i j e (sym (output_is a i) ∙ p) (sym (output_is b j) ∙ q)

  -- the edge of a stream
  abbrev edge : ℕ → Edge
  edge s = edge_at diagram.edges s

  below : (s : ℕ) → s < length layout.streams → s < length diagram.edges
  below s lt = let many = ok.edges in omega arith

  edge_there : (s : ℕ) → s < length layout.streams → Contains diagram.edges (edge s)
  edge_there s lt = Contains-get_or diagram.edges s no_edge (below s lt)

  producer_is : (s : ℕ) → s < length layout.streams → producer_of plan s ≡ Some (edge s).from.block
  producer_is s lt = end-found (λ (x : BlockPlan). x.outs) no_block refl plan.blocks outputs_apart (edge s).from.block (edge s).from.port (plan_at plan s).from
      (output_is (edge s).from.block (edge s).from.port ∙ (ok.along s lt).from)

  consumer_is : (s : ℕ) → s < length layout.streams → consumer_of plan s ≡ Some (edge s).to.block
  consumer_is s lt = end-found (λ (x : BlockPlan). x.ins) no_block refl plan.blocks inputs_apart (edge s).to.block (edge s).to.port (plan_at plan s).to
      (input_is (edge s).to.block (edge s).to.port ∙ (ok.along s lt).to)

  produced_by : (s a : ℕ) → s < length layout.streams → producer_of plan s ≡ Some a → (edge s).from.block ≡ a
  produced_by s a lt is = same_Some (edge s).from.block a (sym (producer_is s lt) ∙ is)

  consumed_by : (s b : ℕ) → s < length layout.streams → consumer_of plan s ≡ Some b → (edge s).to.block ≡ b
  consumed_by s b lt is = same_Some (edge s).to.block b (sym (consumer_is s lt) ∙ is)

  block_below : (b j : ℕ) (e : Epid) → out_at layout b j ≡ Some e → b < length layout.blocks
  block_below b j e at = is_there (λ (x : PlacedBlock). x.outs) no_placed refl layout.blocks b j e at

  -- only a stream that is there has a producer
  stream_below : (s a : ℕ) → producer_of plan s ≡ Some a → s < length layout.streams
  stream_below s a is = elim (cases_lt s (length layout.streams)) [
    | inl lt ↦ lt
    | inr le ↦
        let end = found-end (λ (x : BlockPlan). x.outs) no_block refl plan.blocks (plan_at plan s).from a is in
        let at : out_at layout a end.0 ≡ Some no_epid =
        sym (output_is a end.0) ∙ end.1 ∙ ap (λ (x : StreamPlan). Some x.from) (get_or_past layout.streams s no_stream le) in
        let named : 0 < no_epid.0 = (ok.blocks a (block_below a end.0 no_epid at)).outs end.0 no_epid at in
        absurd (omega arith)
  ]

  -- blocks that streams join are joined by edges
  edges_too : {a c : ℕ} → Reaches plan a c → Joins diagram.edges a c
  edges_too here = stays
  edges_too {a} {c} (along s b from to rest) =
      let lt = stream_below s a from in
      over (edge s) (edge_there s lt) (produced_by s a lt from)
      (subst (λ (x : ℕ). Joins diagram.edges x c) (sym (consumed_by s b lt to)) (edges_too rest))

  acyclic : EachStream plan (NeverReturns plan)
  acyclic s lt a b from to way = graph.acyclic (edge s) (edge_there s lt)
      (subst (λ (x : ℕ). Joins diagram.edges (edge s).to.block x) (sym (produced_by s a lt from))
      (subst (λ (x : ℕ). Joins diagram.edges x a) (sym (consumed_by s b lt to)) (edges_too way)))

  same_port : (at to : PortAt) → at.block ≡ to.block → at.port ≡ to.port → port_number at ≡ port_number to
  same_port at to block port = omega arith

  own_starts : HaveOwnEnds plan (from_of plan)
  own_starts s t lt lt' same =
      let one = ok.outputs (edge s).from.block (edge t).from.block (edge s).from.port (edge t).from.port (from_of plan s)
      (ok.along s lt).from ((ok.along t lt').from ∙ ap Some (sym same)) in
      same_place (λ (e : Edge). port_number e.from) diagram.edges no_edge s t graph.outputs (below s lt) (below t lt')
      (same_port (edge s).from (edge t).from one.0 one.1)

  own_goals : HaveOwnEnds plan (to_of plan)
  own_goals s t lt lt' same =
      let one = ok.inputs (edge s).to.block (edge t).to.block (edge s).to.port (edge t).to.port (to_of plan s)
      (ok.along s lt).to ((ok.along t lt').to ∙ ap Some (sym same)) in
      same_place (λ (e : Edge). port_number e.to) diagram.edges no_edge s t graph.inputs (below s lt) (below t lt')
      (same_port (edge s).to (edge t).to one.0 one.1)

  -- a block's first port is one of the graph
  first_is : (b : ℕ) → b < length layout.blocks → 0 < ports_at diagram.kinds b (first_side (placed_at layout b).kind)
  first_is b lt =
      let side = first_side (placed_at layout b).kind in
      let count : ports_at diagram.kinds b side ≡ port_count side (placed_at layout b).kind =
      subst (λ (kinds : List BlockKind). ports_at kinds b side ≡ port_count side (placed_at layout b).kind) ok.kinds (kind_at layout.blocks b lt side) in
      let some = first_there (placed_at layout b).kind in
      omega arith

  block_fits : EachBlock plan (λ b. FitsBlock (block_at plan b))
  block_fits b lt' =
      let lt : b < length layout.blocks = let long = length_is in omega arith in
      let placed = ok.blocks b lt in
      let kind = (placed_at layout b).kind in
      let spp = fitting_value diagram committed settles ok.users b kind Spp (λ e. cc) (first_is b lt) in
      let item = fitting_value diagram committed settles ok.users b kind Item (λ e. cc) (first_is b lt) in
      subst FitsBlock (sym (block_is b lt)) (record {
        kind = placed.kind;
        inputs = placed.inputs;
        outputs = placed.outputs;
        source = record { packets = placed.packets; spp_low = spp.0; spp_high = spp.1; item = item };
      })

  one_form : (s : ℕ) → s < length layout.streams → HaveOneForm plan (edge s).from.block (edge s).to.block
  one_form s lt =
      let a = (edge s).from.block in
      let b = (edge s).to.block in
      let lt_a : a < length layout.blocks = block_below a (edge s).from.port (plan_at plan s).from (ok.along s lt).from in
      let lt_b : b < length layout.blocks = is_there (λ (x : PlacedBlock). x.ins) no_placed refl layout.blocks b (edge s).to.port (plan_at plan s).to (ok.along s lt).to in
      let joined = All-contains (IsJoined diagram.kinds) diagram.edges (edge s) graph.joined (edge_there s lt) in
      let same = λ (prop : Prop) (form : prop ≢ Rate).
      edge_value diagram committed settles (edge s) (edge_there s lt) joined (placed_at layout a).kind (placed_at layout b).kind prop form (first_is a lt_a) (first_is b lt_b) in
      record {
        item = ap (λ (x : BlockPlan). x.item) (block_is a lt_a) ∙ same Item (λ e. cc) ∙ sym (ap (λ (x : BlockPlan). x.item) (block_is b lt_b));
        spp = ap (λ (x : BlockPlan). x.spp) (block_is a lt_a) ∙ same Spp (λ e. cc) ∙ sym (ap (λ (x : BlockPlan). x.spp) (block_is b lt_b));
      }

  forms : EachStream plan (KeepsForm plan)
  forms s lt a b from to =
      subst (λ (x : ℕ). HaveOneForm plan x b) (produced_by s a lt from)
      (subst (λ (x : ℕ). HaveOneForm plan (edge s).from.block x) (consumed_by s b lt to) (one_form s lt))

  few_blocks : length plan.blocks ≤ 32
  few_blocks = let long = length_is in let few = blocks-few diagram layout graph ok in omega arith

  stands : (tree : Plan) → StandIn tree layout → EachBlock plan (StandsAt tree plan)
  stands tree stand b lt' =
      let lt : b < length layout.blocks = let long = length_is in omega arith in
      let kind : (block_at plan b).kind ≡ (placed_at layout b).kind = ap (λ (x : BlockPlan). x.kind) (block_is b lt) in
      record {
        ins = λ i e at. rw kind ((stand b lt).ins i e (sym (input_is b i) ∙ at));
        outs = λ j e at. rw kind ((stand b lt).outs j e (sym (output_is b j) ∙ at));
      }

  pub laid_out : (tree : Plan) → StandIn tree layout → IsLaidOut tree (plan_of layout committed faults)
  laid_out tree stand = record {
    fits = record {
      blocks = block_fits;
      starts = λ s lt. (ok.terms s lt).start;
      flows = λ s lt. (ok.terms s lt).flow;
      forms = forms;
    };
    few_blocks = few_blocks;
    endpoints = stands tree stand;
    endpoints_free = (inputs_apart, outputs_apart);
    few_streams = ok.few;
    ports = λ s lt. (some_from (producer_of plan s) (edge s).from.block (producer_is s lt), some_from (consumer_of plan s) (edge s).to.block (consumer_is s lt));
    ports_free = (own_starts, own_goals);
    acyclic = acyclic;
    no_loops = λ s lt. (ok.along s lt).differ;
  }
