-- A net is settled exactly where the states for which it stands are.
use Rattle.std.proofs.Common.{◌≡◌, ◌≤◌, ◌<◌, ◌⊎◌, inl, inr, List, [], length, map, sym, ◌∙◌, ap, subst, get_or, arith}
use Rattle.std.specs.Prelude.{All}
use Rattle.std.proofs.Math.ListN.{get_or-map}
use Rattle.std.proofs.lemmas.Bool.{cases_lt}
use Rattle.std.proofs.lemmas.List.{get_or_default, get_or_past, length-map, nil_from_length}
use Rattle.block_library.specs.Blocks.{inputs}
use Rattle.block_library.specs.declared.kind.BlockKind.{BlockKind}
use Rattle.block_library.specs.declared.kind.BlockKind.TheVariants.{Tx, Rx, Fifo, Split, Keep, Repeat, Replay, Switch, Sink}
use Rattle.net_topology.specs.declared.plan.Plan.{Plan}
use Rattle.net_machine.specs.declared.plan.BlockPlan.{BlockPlan}
use Rattle.net_machine.specs.declared.plan.RunPlan.{RunPlan}
use Rattle.net_machine.specs.Front.{Queued, queued}
use Rattle.net_machine.specs.Laws.{HasFewInputs}
use Rattle.net_machine.specs.Plans.{block_at, no_block}
use Rattle.net_machine.specs.State.{Entry, Node, node_in}
use Rattle.net_present.proofs.Laws.{present_tells}
use Rattle.net_flows.specs.Lasting.{IsSound}
use Rattle.net_lone.specs.Stages.{HavePlaces}
use Rattle.host_talk.specs.Settled.{SettledNets, SettledStates}

-- ---- no block has more inputs than two

kind-few : (kind : BlockKind) → inputs kind ≤ 2
kind-few Tx = omega arith
kind-few Rx = omega arith
kind-few Fifo = omega arith
kind-few Split = omega arith
kind-few (Keep n) = omega arith
kind-few (Repeat n) = omega arith
kind-few (Replay n) = omega arith
kind-few (Switch n) = omega arith
kind-few Sink = omega arith

few-inputs : (tree : Plan) (plan : RunPlan) → IsSound tree plan → HasFewInputs plan
few-inputs tree plan sound b = by_order (cases_lt b (length plan.blocks))
  where
    by_order : (b < length plan.blocks) ⊎ (length plan.blocks ≤ b) → length (block_at plan b).ins ≤ 2
    by_order (inl lt) = subst (λ n. n ≤ 2) (sym (sound.fits.blocks b lt).inputs) (kind-few (block_at plan b).kind)
    by_order (inr past) = subst (λ (block : BlockPlan). length block.ins ≤ 2) (sym (get_or_past plan.blocks b no_block past)) (omega arith)

-- ---- queues without their tags

none-of : (queue : List Entry) → map queued queue ≡ [] → queue ≡ []
none-of queue e = nil_from_length queue (sym (length-map queue queued) ∙ ap (λ (es : List Queued). length es) e)

no-entries : (queues : List (List Entry)) → All (λ (queue : List Queued). queue ≡ []) (map (map queued) queues)
    → All (λ (queue : List Entry). queue ≡ []) queues
no-entries queues empty k d lt =
    none-of (get_or queues k d) (sym (get_or-map (map queued) queues k d) ∙ empty k (map queued d) (rw (length-map queues (map queued)) lt))

no-queued : (queues : List (List Entry)) → All (λ (queue : List Entry). queue ≡ []) queues → All (λ (queue : List Queued). queue ≡ []) (map (map queued) queues)
no-queued queues empty k d lt =
    let within : k < length queues = rw (sym (length-map queues (map queued))) lt in
    get_or_default (map (map queued) queues) k d [] lt ∙ get_or-map (map queued) queues k [] ∙ ap (map queued) (empty k [] within)

pub settled-states : SettledStates
settled-states p w stands settled = record {
  queues = stands.lawful.steady.queues;
  nodes = ap (λ (ns : List Node). length ns) (sym stands.now.nodes) ∙ settled.nodes ∙ ap (λ (t : Plan). length t.nodes) stands.now.tree;
  places = subst (λ (t : Plan). HavePlaces t w.nodes) stands.now.tree (subst (λ (ns : List Node). HavePlaces p.tree ns) stands.now.nodes settled.places);
  few = few-inputs w.tree w.plan stands.lawful.steady.plan;
  rest = record {
    empty = no-entries w.queues (subst (λ (qs : List (List Queued)). All (λ (queue : List Queued). queue ≡ []) qs) stands.now.queues settled.rest.empty);
    still = λ e. sym (present_tells p w e stands.now) ∙ settled.rest.still e;
    heard = subst (λ (ns : List Node). All (λ (n : Node). n.answers ≡ []) ns) stands.now.nodes settled.rest.heard;
  };
  clear = λ x. ap (λ (ns : List Node). (node_in ns x).pending) (sym stands.now.nodes) ∙ settled.clear x;
}

pub settled-nets : SettledNets
settled-nets p w stands settled = record {
  rest = record {
    empty = subst (λ (qs : List (List Queued)). All (λ (queue : List Queued). queue ≡ []) qs) (sym stands.now.queues) (no-queued w.queues settled.rest.empty);
    still = λ e. present_tells p w e stands.now ∙ settled.rest.still e;
    heard = subst (λ (ns : List Node). All (λ (n : Node). n.answers ≡ []) ns) (sym stands.now.nodes) settled.rest.heard;
  };
  nodes = ap (λ (ns : List Node). length ns) stands.now.nodes ∙ settled.nodes ∙ ap (λ (t : Plan). length t.nodes) (sym stands.now.tree);
  places = subst (λ (t : Plan). HavePlaces t p.nodes) (sym stands.now.tree) (subst (λ (ns : List Node). HavePlaces w.tree ns) (sym stands.now.nodes) settled.places);
  clear = λ x. ap (λ (ns : List Node). (node_in ns x).pending) stands.now.nodes ∙ settled.clear x;
}
