-- What conditions read of a stream that stands in a present.
use Rattle.std.proofs.Common.{◌≡◌, ℕ, ◌<◌, Bool, true, false, List, length, refl, sym, ◌∙◌, ap, subst, arith}
use Rattle.std.specs.Prelude.{◌&&◌}
use Rattle.std.specs.List.{range_with_len}
use Rattle.std.specs.Option.{option_and_then}
use Rattle.std.proofs.Math.ListN.{get_or-map}
use Rattle.std.proofs.lemmas.List.{length-map}
use Rattle.std.proofs.lemmas.List.FromFn.{get_or-map-range_with_len, length-range_with_len}
use Rattle.chdr_words.specs.declared.epid.Epid.{Epid}
use Rattle.net_topology.specs.Links.{link_at}
use Rattle.net_machine.specs.Front.{front_at}
use Rattle.net_machine.specs.Nodes.{route_from}
use Rattle.net_machine.specs.State.{node_in}
use Rattle.net_present.specs.Kept.{idle_now, now_at}
use Rattle.net_present.specs.Present.{Present, front_now, front_now_of}
use Rattle.fabric_nodes.specs.Shapes.{Shape, leaves_of, shape_at}
use Rattle.fabric_nodes.proofs.Laws.{shapes_tell}
use Rattle.fabric_events.specs.declared.fabric.Fabric.{Fabric}
use Rattle.fabric_lists.specs.Opened.{is_tx_stream}
use Rattle.fabric_events.specs.Fabrics.{IsSound, present_of}
use Rattle.fabric_lists.specs.StreamsView.{plan_in, streams_of, tx_seen}
use Rattle.net_machine.specs.declared.plan.StreamPlan.{StreamPlan}
use Rattle.fabric_lists.specs.SitesView.{no_shape, shape_in, shape_seen, sites_of}

-- stream s of a present is the one of its front
pub front_of_stream : (p : Present) (s : ℕ) → front_at (front_now p) s ≡ front_now_of (now_at p.streams s)
front_of_stream p s = get_or-map front_now_of p.streams s idle_now

-- there is a node for each of the tree
pub node_count : (f : Fabric) → IsSound f → length f.sites.items ≡ length f.wires.nodes
node_count f sound =
    sym (length-map f.sites.items shape_in) ∙ ap (λ (s : List Shape). length s) sound.shapes
    ∙ length-map (range_with_len 0 (length f.wires.nodes)) (shape_at f.wires) ∙ length-range_with_len 0 (length f.wires.nodes)

-- what a node is that stands in a fabric
pub shape_there : (f : Fabric) (x : ℕ) → IsSound f → x < length f.wires.nodes → shape_seen (sites_of f.sites.items).shapes x ≡ shape_at f.wires x
shape_there f x sound there =
    ap (λ (s : List Shape). shape_seen s x) sound.shapes
    ∙ get_or-map-range_with_len (shape_at f.wires) 0 (length f.wires.nodes) x x no_shape there (omega arith)

-- by what a node is, a route begins at it
pub route_there : (f : Fabric) (x : ℕ) (dst : Epid) → IsSound f → x < length f.wires.nodes
    → option_and_then (link_at f.wires.links x) (leaves_of (shape_seen (sites_of f.sites.items).shapes x) (node_in (sites_of f.sites.items).nodes x).table dst)
    ≡ route_from f.wires (present_of f).nodes x dst
route_there f x dst sound there =
    ap (λ (s : Shape). option_and_then (link_at f.wires.links x) (leaves_of s (node_in (sites_of f.sites.items).nodes x).table dst)) (shape_there f x sound there)
    ∙ sym (shapes_tell.1 f.wires (present_of f).nodes x dst)

-- nothing and false
pub and_false : (a : Bool) → (a && false) ≡ false
and_false true = refl
and_false false = refl

-- which streams a Tx fills
pub tx_there : (f : Fabric) (s : ℕ) → IsSound f → s < length f.streams.items → tx_seen (streams_of f.streams.items).txs s ≡ is_tx_stream f.plan s
tx_there f s sound there =
    let count : length f.plan.streams ≡ length f.streams.items =
    sym (ap (λ (p : List StreamPlan). length p) sound.plans) ∙ length-map f.streams.items plan_in in
    let within : s < length f.plan.streams = subst (λ (n : ℕ). s < n) (sym count) there in
    ap (λ (t : List Bool). tx_seen t s) sound.txs
    ∙ get_or-map-range_with_len (is_tx_stream f.plan) 0 (length f.plan.streams) s s false within (omega arith)
