-- A test of runs: those that pass, and whose streams have few packets, aren't refused.
use Rattle.std.proofs.Common.{◌≡◌, ◌≢◌, ◌∙◌, ℕ, Bool, true, false, not, ◌&&◌, List, length, Some, sym, is_some, leb-true, eq-eqb}
use Rattle.std.specs.Prelude.{◌==◌, nat_le}
use Rattle.std.specs.List.{list_all, range_with_len}
use Rattle.std.specs.Option.{option_map_or}
use Rattle.std.proofs.lemmas.Bool.{not-true}
use Rattle.chdr_words.specs.declared.epid.Epid.{Epid}
use Rattle.net_machine.specs.CanBegin.{EachStream, HasStreams, IsLed, size_of}
use Rattle.net_machine.specs.Nodes.{exits_of}
use Rattle.net_machine.specs.Plans.{block_at, plan_at, stream_from, stream_to}
use Rattle.net_machine.specs.State.{Node}
use Rattle.net_machine.specs.declared.plan.BlockPlan.{BlockPlan}
use Rattle.net_machine.specs.declared.plan.RunPlan.{RunPlan}
use Rattle.net_topology.specs.Leads.{IsRouted}
use Rattle.net_topology.specs.Tree.{IsTree, node_with}
use Rattle.net_topology.specs.declared.plan.Plan.{Plan}
use Rattle.net_topology.proofs.Laws.{routed_tables_lead}
use Rattle.run_plans.specs.RunRefusals.{HasNoCause, IsRunRefusal, IsShort}
use Rattle.run_plans.specs.declared.fault.RunRefusal.{RunRefusal}
use Rattle.run_plans.specs.declared.fault.RunRefusal.TheVariants.{OpenPort, Unrouted, TooBig, TooMuch}
use Rattle.generated_runs.proofs.Tests.{at-passes, below-passes, left, never, passing, right}

-- ---- what is refused has a cause

pub unrefused-run : (tree : Plan) (nodes : List Node) (plan : RunPlan) (why : RunRefusal) → HasNoCause tree nodes plan
    → IsRunRefusal tree nodes plan (Some why) → ⊥
unrefused-run tree nodes plan (OpenPort b) none h = h.lacks (none.no_open_ports b h.below)
unrefused-run tree nodes plan (Unrouted s) none h = h.first.lacks (none.routed s h.first.below)
unrefused-run tree nodes plan (TooBig s) none h = h.first.lacks (none.small s h.first.below)
unrefused-run tree nodes plan (TooMuch s) none h = h.first.lacks (none.short s h.first.below)

-- ---- the test

-- each port of the block has a stream
abbrev pub has_streams : RunPlan → BlockPlan → Bool
has_streams plan block =
    list_all (λ (epid : Epid). is_some (stream_to plan epid)) block.ins
    && list_all (λ (epid : Epid). is_some (stream_from plan epid)) block.outs

-- two nodes have these EPIDs
abbrev pub are_nodes : Plan → Epid → Epid → Bool
are_nodes tree a b =
    option_map_or (λ (x : ℕ). option_map_or (λ (z : ℕ). not (x == z)) (node_with tree.nodes b) false) (node_with tree.nodes a) false

abbrev pub fits_stream : Plan → RunPlan → ℕ → Bool
fits_stream tree plan s =
    are_nodes tree (plan_at plan s).from (plan_at plan s).to && nat_le (size_of plan s) (plan_at plan s).flow.max

abbrev pub fits_run : Plan → RunPlan → Bool
fits_run tree plan =
    list_all (λ (b : ℕ). has_streams plan (block_at plan b)) (range_with_len 0 (length plan.blocks))
    && list_all (fits_stream tree plan) (range_with_len 0 (length plan.streams))

-- ---- what it tells

streams : (plan : RunPlan) (b : ℕ) → has_streams plan (block_at plan b) ≡ true → HasStreams plan b
streams plan b h = record {
  ins = λ i epid is. at-passes (λ (epid : Epid). is_some (stream_to plan epid)) (block_at plan b).ins
      (left (list_all (λ (epid : Epid). is_some (stream_to plan epid)) (block_at plan b).ins) _ h) i epid is;
  outs = λ j epid is. at-passes (λ (epid : Epid). is_some (stream_from plan epid)) (block_at plan b).outs
      (right (list_all (λ (epid : Epid). is_some (stream_to plan epid)) (block_at plan b).ins) _ h) j epid is;
}

-- two nodes with these EPIDs, which differ
record Ends (tree : Plan) (a b : Epid) : Type 0 where
  pub x : ℕ
  pub z : ℕ
  pub first : node_with tree.nodes a ≡ Some x
  pub second : node_with tree.nodes b ≡ Some z
  pub apart : x ≢ z

ends : (tree : Plan) (a b : Epid) → are_nodes tree a b ≡ true → Ends tree a b
ends tree a b h =
    let first = passing (λ (x : ℕ). option_map_or (λ (z : ℕ). not (x == z)) (node_with tree.nodes b) false) (node_with tree.nodes a) h in
    let second = passing (λ (z : ℕ). not (first.value == z)) (node_with tree.nodes b) first.holds in
    record {
      x = first.value;
      z = second.value;
      first = first.is;
      second = second.is;
      apart = λ e. never (sym (not-true (first.value == second.value) second.holds) ∙ eq-eqb first.value second.value e);
    }

module _ (tree : Plan) (is_tree : IsTree tree) (nodes : List Node) (routed : IsRouted tree (exits_of nodes)) (plan : RunPlan) where
  led : (s : ℕ) → are_nodes tree (plan_at plan s).from (plan_at plan s).to ≡ true → IsLed tree nodes plan s
  led s h =
      let e = ends tree (plan_at plan s).from (plan_at plan s).to h in
      record {
        forth = routed_tables_lead tree is_tree (exits_of nodes) (plan_at plan s).from (plan_at plan s).to e.x e.z routed e.first e.second e.apart;
        back = routed_tables_lead tree is_tree (exits_of nodes) (plan_at plan s).to (plan_at plan s).from e.z e.x routed e.second e.first (λ same. e.apart (sym same));
      }

  pub fits_run-HasNoCause : fits_run tree plan ≡ true → EachStream plan (IsShort plan) → HasNoCause tree nodes plan
  fits_run-HasNoCause h short =
      let blocks = left (list_all (λ (b : ℕ). has_streams plan (block_at plan b)) (range_with_len 0 (length plan.blocks))) _ h in
      let all = right (list_all (λ (b : ℕ). has_streams plan (block_at plan b)) (range_with_len 0 (length plan.blocks))) _ h in
      record {
        no_open_ports = λ b lt. streams plan b (below-passes (λ (b : ℕ). has_streams plan (block_at plan b)) (length plan.blocks) blocks b lt);
        routed = λ s lt. led s (left (are_nodes tree (plan_at plan s).from (plan_at plan s).to) _
            (below-passes (fits_stream tree plan) (length plan.streams) all s lt));
        small = λ s lt. leb-true (size_of plan s) (plan_at plan s).flow.max (right (are_nodes tree (plan_at plan s).from (plan_at plan s).to) _
            (below-passes (fits_stream tree plan) (length plan.streams) all s lt));
        short = short;
      }
