-- Each refusal is the contrary of a part of what a run needs.
use Rattle.std.proofs.Common.{◌≡◌, ◌∙◌, ℕ, ◌+◌, ◌<◌, ◌≤◌, inl, inr, refl, sym, ap, subst, List, [], ◌∷◌, length, arith, Contains, Option, Some, None, unwrap_or}
use Rattle.std.specs.Prelude.{slice_get}
use Rattle.std.proofs.lemmas.Bool.{cases_lt}
use Rattle.std.proofs.lemmas.List.{get_or_append_left, get_or_default, get_or_push, length_push}
use Rattle.std.proofs.lemmas.Option.{slice_get_within}
use Rattle.block_library.specs.Blocks.{inputs, outputs}
use Rattle.block_library.specs.declared.kind.BlockKind.{BlockKind}
use Rattle.chdr_words.specs.declared.epid.Epid.{Epid}
use Rattle.graph_core.specs.Derivation.{Diagram}
use Rattle.graph_core.specs.Edges.{IsBadPort, IsTaken, Reaches as Joins}
use Rattle.graph_core.specs.Edges.Reaches.{here as stays, along as over}
use Rattle.graph_core.specs.Pairs.{Pair}
use Rattle.graph_core.specs.Ports.{ports_at}
use Rattle.graph_core.specs.Refusals.{IsRefusedCycle}
use Rattle.graph_core.specs.declared.place.Side.TheVariants.{Into, Out}
use Rattle.graph_core.specs.declared.place.Edge.{Edge}
use Rattle.graph_core.specs.declared.place.PortAt.{PortAt}
use Rattle.net_machine.specs.CanBegin.{CanBegin, Reaches, input_at, output_at}
use Rattle.net_machine.specs.CanBegin.Reaches.{here, along}
use Rattle.net_machine.specs.Plans.{block_at, consumer_of, no_block, no_epid, no_stream, plan_at, producer_of}
use Rattle.net_machine.specs.State.{Node}
use Rattle.net_machine.specs.declared.plan.BlockPlan.{BlockPlan}
use Rattle.net_machine.specs.declared.plan.RunPlan.{RunPlan}
use Rattle.net_machine.specs.declared.plan.StreamPlan.{StreamPlan}
use Rattle.net_topology.specs.declared.plan.Plan.{Plan}
use Rattle.net_faults.specs.declared.fault.Fault.{Fault}
use Rattle.run_plans.specs.Changes.{stream_between, with_block, with_stream}
use Rattle.run_plans.specs.Laws.{RefusedBlocksDoNot, RefusedPlansDoNot, RefusedStreamsDoNot}
use Rattle.run_plans.specs.Layouts.{IsLayout, StandsAtNode, edge_at, in_at, laid_at, no_edge, no_placed, out_at, placed_at}
use Rattle.run_plans.specs.Planned.{plan_of}
use Rattle.run_plans.specs.Refusals.{IsFirstOf, IsLoop, IsRefusedNowhere, IsRefusedUsed, IsUnused}
use Rattle.run_plans.specs.declared.connect.Terms.{Terms}
use Rattle.run_plans.specs.declared.fault.BlockRefusal.TheVariants.{TooManyBlocks, NoEndpoint, EndpointTaken}
use Rattle.run_plans.specs.declared.fault.ConnectRefusal.TheVariants.{TooManyStreams, BadPort, PortTaken, Cycle, Loop}
use Rattle.run_plans.specs.declared.fault.RunRefusal.TheVariants.{OpenPort, Unrouted, TooBig, TooMuch}
use Rattle.run_plans.specs.declared.layout.Layout.{Layout}
use Rattle.run_plans.specs.declared.layout.PlacedBlock.{PlacedBlock}
use Rattle.run_plans.proofs.Ends.{end-found, end_kept, found-end, is_there}
use Rattle.run_plans.proofs.Kept.{in_there, out_there}
use Rattle.run_plans.proofs.Lists.{from_some}
use Rattle.run_plans.proofs.PlanEnds.{kind_at, plan-block, plan-blocks, plan-input, plan-output}

good_port : (ports port : ℕ) → (ports ≤ port → ⊥) → port < ports
good_port ports port good = elim (cases_lt port ports) [ inl lt ↦ lt | inr le ↦ absurd (good le) ]

pub refused_plans : RefusedPlansDoNot
refused_plans tree nodes plan (OpenPort b) refused can = refused.lacks (can.no_open_ports b refused.below)
refused_plans tree nodes plan (Unrouted s) refused can = refused.first.lacks (can.routed s refused.first.below)
refused_plans tree nodes plan (TooBig s) refused can = refused.first.lacks (can.small s refused.first.below)
refused_plans tree nodes plan (TooMuch s) refused can = refused.first.lacks (can.few_packets s refused.first.below)

module _ (tree : Plan) (nodes : List Node) (layout : Layout) (block : PlacedBlock) (committed : List Pair) (faults : List Fault)
    (can : CanBegin tree nodes (plan_of (with_block layout block) committed faults)) where
  abbrev plan : RunPlan
  plan = plan_of (with_block layout block) committed faults

  long : length plan.blocks ≡ length layout.blocks + 1
  long = plan-blocks (with_block layout block) committed faults ∙ length_push layout.blocks block

  new_is : placed_at (with_block layout block) (length layout.blocks) ≡ block
  new_is = get_or_push layout.blocks block no_placed (length layout.blocks) refl

  new_kind : (block_at plan (length layout.blocks)).kind ≡ block.kind
  new_kind = ap (λ (x : BlockPlan). x.kind) (plan-block (with_block layout block) committed faults (length layout.blocks) (let n = length_push layout.blocks block in omega arith))
      ∙ ap (λ (x : PlacedBlock). x.kind) new_is

  new_input : (i : ℕ) (e : Epid) → slice_get block.ins i ≡ Some e → input_at plan (length layout.blocks) i ≡ Some e
  new_input i e at = plan-input (with_block layout block) committed faults (length layout.blocks) i
      ∙ ap (λ (x : PlacedBlock). slice_get x.ins i) new_is ∙ at

  new_output : (j : ℕ) (e : Epid) → slice_get block.outs j ≡ Some e → output_at plan (length layout.blocks) j ≡ Some e
  new_output j e at = plan-output (with_block layout block) committed faults (length layout.blocks) j
      ∙ ap (λ (x : PlacedBlock). slice_get x.outs j) new_is ∙ at

  old_input : (b i : ℕ) (e : Epid) → in_at layout b i ≡ Some e → input_at plan b i ≡ Some e
  old_input b i e at = plan-input (with_block layout block) committed faults b i
      ∙ end_kept (λ (x : PlacedBlock). x.ins) no_placed refl layout.blocks block b i e at

  old_output : (b j : ℕ) (e : Epid) → out_at layout b j ≡ Some e → output_at plan b j ≡ Some e
  old_output b j e at = plan-output (with_block layout block) committed faults b j
      ∙ end_kept (λ (x : PlacedBlock). x.outs) no_placed refl layout.blocks block b j e at

  nowhere : (e : Epid) → IsRefusedNowhere tree layout block e → ⊥
  nowhere e refused = by refused.first
    where
      here' : length layout.blocks < length plan.blocks
      here' = let n = long in omega arith

      by : IsFirstOf (StandsAtNode tree block.kind) (StandsAtNode tree block.kind) block e → ⊥
      by (inl first) = first.lacks (rw (← new_kind) ((can.endpoints (length layout.blocks) here').ins first.place e (new_input first.place e first.found)))
      by (inr later) = later.1.lacks (rw (← new_kind) ((can.endpoints (length layout.blocks) here').outs later.1.place e (new_output later.1.place e later.1.found)))

  used : (e : Epid) → IsRefusedUsed tree layout block e → ⊥
  used e refused = by refused.first
    where
      by : IsFirstOf (IsUnused (in_at layout) block.ins) (IsUnused (out_at layout) block.outs) block e → ⊥
      by (inl first) = first.lacks (record {
        blocks = λ b i at.
            let same = can.endpoints_free.0 b (length layout.blocks) i first.place e (old_input b i e at) (new_input first.place e first.found) in
            let below = is_there (λ (x : PlacedBlock). x.ins) no_placed refl layout.blocks b i e at in
            let here' = same.0 in omega arith;
        earlier = λ i lt at.
            let same = can.endpoints_free.0 (length layout.blocks) (length layout.blocks) i first.place e (new_input i e at) (new_input first.place e first.found) in
            let here' = same.1 in omega arith;
      })
      by (inr later) = later.1.lacks (record {
        blocks = λ b j at.
            let same = can.endpoints_free.1 b (length layout.blocks) j later.1.place e (old_output b j e at) (new_output later.1.place e later.1.found) in
            let below = is_there (λ (x : PlacedBlock). x.outs) no_placed refl layout.blocks b j e at in
            let here' = same.0 in omega arith;
        earlier = λ j lt at.
            let same = can.endpoints_free.1 (length layout.blocks) (length layout.blocks) j later.1.place e (new_output j e at) (new_output later.1.place e later.1.found) in
            let here' = same.1 in omega arith;
      })

pub refused_blocks : RefusedBlocksDoNot
refused_blocks tree nodes layout block committed faults TooManyBlocks refused can =
    let n = long tree nodes layout block committed faults can in let few = can.few_blocks in omega arith
refused_blocks tree nodes layout block committed faults (NoEndpoint e) refused can = nowhere tree nodes layout block committed faults can e refused
refused_blocks tree nodes layout block committed faults (EndpointTaken e) refused can = used tree nodes layout block committed faults can e refused

module _ (tree : Plan) (nodes : List Node) (diagram : Diagram) (layout : Layout) (ok : IsLayout diagram layout) (from to : PortAt) (terms : Terms)
    (committed : List Pair) (faults : List Fault) (can : CanBegin tree nodes (plan_of (with_stream layout from to terms) committed faults)) where
  abbrev run : RunPlan
  run = plan_of (with_stream layout from to terms) committed faults

  count : length run.streams ≡ length layout.streams + 1
  count = length_push layout.streams (stream_between layout from to terms)

  last_below : length layout.streams < length run.streams
  last_below = let n = count in omega arith

  new_stream : plan_at run (length layout.streams) ≡ stream_between layout from to terms
  new_stream = get_or_push layout.streams (stream_between layout from to terms) no_stream (length layout.streams) refl

  old_stream : (s : ℕ) → s < length layout.streams → plan_at run s ≡ laid_at layout s
  old_stream s lt = get_or_append_left layout.streams (stream_between layout from to terms ∷ []) no_stream s lt

  input_is : (b i : ℕ) → input_at run b i ≡ in_at layout b i
  input_is = plan-input (with_stream layout from to terms) committed faults

  output_is : (b j : ℕ) → output_at run b j ≡ out_at layout b j
  output_is = plan-output (with_stream layout from to terms) committed faults

  -- the block with an output at the EPID where a stream begins makes its packets
  producer_at : (s b j : ℕ) → out_at layout b j ≡ Some (plan_at run s).from → producer_of run s ≡ Some b
  producer_at s b j at = end-found (λ (x : BlockPlan). x.outs) no_block refl run.blocks can.endpoints_free.1 b j (plan_at run s).from (output_is b j ∙ at)

  consumer_at : (s b i : ℕ) → in_at layout b i ≡ Some (plan_at run s).to → consumer_of run s ≡ Some b
  consumer_at s b i at = end-found (λ (x : BlockPlan). x.ins) no_block refl run.blocks can.endpoints_free.0 b i (plan_at run s).to (input_is b i ∙ at)

  starts_at : (e : Epid) → out_at layout from.block from.port ≡ Some e → (plan_at run (length layout.streams)).from ≡ e
  starts_at e at = ap (λ (x : StreamPlan). x.from) new_stream ∙ ap (λ (o : Option Epid). unwrap_or o no_epid) at

  goes_to : (e : Epid) → in_at layout to.block to.port ≡ Some e → (plan_at run (length layout.streams)).to ≡ e
  goes_to e at = ap (λ (x : StreamPlan). x.to) new_stream ∙ ap (λ (o : Option Epid). unwrap_or o no_epid) at

  -- no block has the EPID 0
  unnamed_out : (b j : ℕ) → out_at layout b j ≡ Some no_epid → ⊥
  unnamed_out b j at =
      let lt = is_there (λ (x : PlacedBlock). x.outs) no_placed refl layout.blocks b j no_epid at in
      let named : 0 < no_epid.0 = (ok.blocks b lt).outs j no_epid at in
      omega arith

  unnamed_in : (b i : ℕ) → in_at layout b i ≡ Some no_epid → ⊥
  unnamed_in b i at =
      let lt = is_there (λ (x : PlacedBlock). x.ins) no_placed refl layout.blocks b i no_epid at in
      let named : 0 < no_epid.0 = (ok.blocks b lt).ins i no_epid at in
      omega arith

  -- an EPID stands at a port of the graph
  out_below : (b j : ℕ) (e : Epid) → out_at layout b j ≡ Some e → j < ports_at diagram.kinds b Out
  out_below b j e at =
      let lt = is_there (λ (x : PlacedBlock). x.outs) no_placed refl layout.blocks b j e at in
      let within = slice_get_within (placed_at layout b).outs j e at in
      let many = (ok.blocks b lt).outputs in
      let kinds : ports_at diagram.kinds b Out ≡ outputs (placed_at layout b).kind =
      subst (λ (kinds : List BlockKind). ports_at kinds b Out ≡ outputs (placed_at layout b).kind) ok.kinds (kind_at layout.blocks b lt Out) in
      omega arith

  in_below : (b i : ℕ) (e : Epid) → in_at layout b i ≡ Some e → i < ports_at diagram.kinds b Into
  in_below b i e at =
      let lt = is_there (λ (x : PlacedBlock). x.ins) no_placed refl layout.blocks b i e at in
      let within = slice_get_within (placed_at layout b).ins i e at in
      let many = (ok.blocks b lt).inputs in
      let kinds : ports_at diagram.kinds b Into ≡ inputs (placed_at layout b).kind =
      subst (λ (kinds : List BlockKind). ports_at kinds b Into ≡ inputs (placed_at layout b).kind) ok.kinds (kind_at layout.blocks b lt Into) in
      omega arith

  bad_port : IsBadPort diagram.kinds from to → ⊥
  bad_port (inl le) = by (out_at layout from.block from.port) refl
    where
      by : (o : Option Epid) → out_at layout from.block from.port ≡ o → ⊥
      by (Some e) at = let lt = out_below from.block from.port e at in omega arith
      by None at =
          let made = from_some (producer_of run (length layout.streams)) (can.ports (length layout.streams) last_below).0 in
          let end = found-end (λ (x : BlockPlan). x.outs) no_block refl run.blocks (plan_at run (length layout.streams)).from made.0 made.1 in
          unnamed_out made.0 end.0 (sym (output_is made.0 end.0) ∙ end.1
          ∙ ap (λ (x : StreamPlan). Some x.from) new_stream ∙ ap (λ (o : Option Epid). Some (unwrap_or o no_epid)) at)
  bad_port (inr le) = by (in_at layout to.block to.port) refl
    where
      by : (o : Option Epid) → in_at layout to.block to.port ≡ o → ⊥
      by (Some e) at = let lt = in_below to.block to.port e at in omega arith
      by None at =
          let made = from_some (consumer_of run (length layout.streams)) (can.ports (length layout.streams) last_below).1 in
          let end = found-end (λ (x : BlockPlan). x.ins) no_block refl run.blocks (plan_at run (length layout.streams)).to made.0 made.1 in
          unnamed_in made.0 end.0 (sym (input_is made.0 end.0) ∙ end.1
          ∙ ap (λ (x : StreamPlan). Some x.to) new_stream ∙ ap (λ (o : Option Epid). Some (unwrap_or o no_epid)) at)

  -- an edge of the graph has its stream
  below : (edge : Edge) (has : Contains diagram.edges edge) → has.0 < length layout.streams
  below edge has = let many = ok.edges in let lt = has.1 in omega arith

  is_edge : (edge : Edge) (has : Contains diagram.edges edge) → edge_at diagram.edges has.0 ≡ edge
  is_edge edge has = get_or_default diagram.edges has.0 no_edge edge has.1 ∙ has.2

  begins : (edge : Edge) (has : Contains diagram.edges edge) → out_at layout edge.from.block edge.from.port ≡ Some (plan_at run has.0).from
  begins edge has =
      ap (λ (x : Edge). out_at layout x.from.block x.from.port) (sym (is_edge edge has))
      ∙ (ok.along has.0 (below edge has)).from
      ∙ ap (λ (x : StreamPlan). Some x.from) (sym (old_stream has.0 (below edge has)))

  ends : (edge : Edge) (has : Contains diagram.edges edge) → in_at layout edge.to.block edge.to.port ≡ Some (plan_at run has.0).to
  ends edge has =
      ap (λ (x : Edge). in_at layout x.to.block x.to.port) (sym (is_edge edge has))
      ∙ (ok.along has.0 (below edge has)).to
      ∙ ap (λ (x : StreamPlan). Some x.to) (sym (old_stream has.0 (below edge has)))

  taken : IsTaken diagram.edges from to → ⊥
  taken (edge, has, inl same) =
      let at : out_at layout from.block from.port ≡ Some (plan_at run has.0).from =
      ap (λ (p : PortAt). out_at layout p.block p.port) (sym same) ∙ begins edge has in
      let lt = below edge has in
      let one = can.ports_free.0 has.0 (length layout.streams) (let n = count in omega arith) last_below (sym (starts_at (plan_at run has.0).from at)) in
      omega arith
  taken (edge, has, inr same) =
      let at : in_at layout to.block to.port ≡ Some (plan_at run has.0).to =
      ap (λ (p : PortAt). in_at layout p.block p.port) (sym same) ∙ ends edge has in
      let lt = below edge has in
      let one = can.ports_free.1 has.0 (length layout.streams) (let n = count in omega arith) last_below (sym (goes_to (plan_at run has.0).to at)) in
      omega arith

  -- what edges join, streams join
  streams_too : {a c : ℕ} → Joins diagram.edges a c → Reaches run a c
  streams_too stays = here
  streams_too {a} {c} (over edge has at rest) = along has.0 edge.to.block
      (producer_at has.0 edge.from.block edge.from.port (begins edge has) ∙ ap Some at)
      (consumer_at has.0 edge.to.block edge.to.port (ends edge has)) (streams_too rest)

  cycle : IsRefusedCycle diagram.kinds diagram.edges from to → ⊥
  cycle refused =
      let begin = out_there layout.blocks ok.blocks from.block from.port (subst (λ (kinds : List BlockKind). from.port < ports_at kinds from.block Out) (sym ok.kinds)
      (good_port (ports_at diagram.kinds from.block Out) from.port (λ le. refused.ports (inl le)))) in
      let end = in_there layout.blocks ok.blocks to.block to.port (subst (λ (kinds : List BlockKind). to.port < ports_at kinds to.block Into) (sym ok.kinds)
      (good_port (ports_at diagram.kinds to.block Into) to.port (λ le. refused.ports (inr le)))) in
      can.acyclic (length layout.streams) last_below from.block to.block
      (producer_at (length layout.streams) from.block from.port (begin.1 ∙ ap Some (sym (starts_at begin.0 begin.1))))
      (consumer_at (length layout.streams) to.block to.port (end.1 ∙ ap Some (sym (goes_to end.0 end.1))))
      (streams_too refused.cycle)

  loop : (e : Epid) → IsLoop layout from to e → ⊥
  loop e loops = can.no_loops (length layout.streams) last_below (starts_at e loops.begins ∙ sym (goes_to e loops.ends))

pub refused_streams : RefusedStreamsDoNot
refused_streams tree nodes diagram layout from to terms committed faults TooManyStreams ok refused can =
    let n = count tree nodes diagram layout ok from to terms committed faults can in let few = can.few_streams in omega arith
refused_streams tree nodes diagram layout from to terms committed faults BadPort ok refused can = bad_port tree nodes diagram layout ok from to terms committed faults can refused.1
refused_streams tree nodes diagram layout from to terms committed faults PortTaken ok refused can = taken tree nodes diagram layout ok from to terms committed faults can refused.1.taken
refused_streams tree nodes diagram layout from to terms committed faults Cycle ok refused can = cycle tree nodes diagram layout ok from to terms committed faults can refused.1
refused_streams tree nodes diagram layout from to terms committed faults (Loop e) ok refused can = loop tree nodes diagram layout ok from to terms committed faults can e refused.1.loops
