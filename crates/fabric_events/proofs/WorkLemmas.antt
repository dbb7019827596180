-- Which nodes have something to do, by their flags, as what a node holds changes.
use Rattle.std.proofs.Common.{◌≡◌, ℕ, zero, suc, ◌+◌, ◌<◌, Bool, true, false, List, [], ◌∷◌, ◌++◌, length, refl, sym, ◌∙◌, ap, subst, set, arith}
use Rattle.std.specs.Prelude.{◌||◌, if◌then◌else◌, map, replicate}
use Rattle.std.specs.List.{range_with_len}
use Rattle.std.proofs.Math.Seq.{map-set_same}
use Rattle.std.proofs.lemmas.List.{length-map, map-set}
use Rattle.chdr_packets.specs.declared.packet.Packet.{Packet}
use Rattle.net_nodes.specs.declared.table.Place.{Place}
use Rattle.net_topology.specs.declared.plan.Plan.{Plan}
use Rattle.net_machine.specs.Begin.{built_node, epids_of, place_for}
use Rattle.net_machine.specs.Blocks.{has_packet}
use Rattle.net_machine.specs.Nodes.{is_switch}
use Rattle.net_machine.specs.State.{Node, blank, node_in}
use Rattle.fabric_lists.specs.SitesView.{has_work, on_site, sites_of, working_in}
use Rattle.fabric_nodes.specs.Sites.{node_of}
use Rattle.fabric_events.specs.declared.fabric.Fabric.{Fabric}
use Rattle.fabric_events.specs.Fabrics.{IsSound}

-- there is a flag for each node
pub flag_count : (f : Fabric) → IsSound f → length f.working ≡ length f.sites.items
flag_count f sound =
    ap (λ (flags : List Bool). length flags) sound.working ∙ length-map (map node_of f.sites.items) has_work ∙ length-map f.sites.items node_of

-- a flag that says of its node whether it has something to do
pub flag_set : (nodes new : List Node) (flags : List Bool) (x : ℕ) (next : Node → Node) (on : Bool) → flags ≡ working_in nodes
    → new ≡ on_site x next nodes → on ≡ has_work (next (node_in nodes x)) → set flags x on ≡ working_in new
flag_set nodes new flags x next on is changed here =
    ap (λ (fs : List Bool). set fs x on) is ∙ ap (set (working_in nodes) x) here
    ∙ sym (map-set has_work nodes x (next (node_in nodes x))) ∙ sym (ap working_in changed)

-- what changes at a node leaves what it has to do
pub flag_kept : (nodes new : List Node) (flags : List Bool) (x : ℕ) (next : Node → Node) → flags ≡ working_in nodes
    → new ≡ on_site x next nodes → has_work (next (node_in nodes x)) ≡ has_work (node_in nodes x) → flags ≡ working_in new
flag_kept nodes new flags x next is changed same =
    is ∙ sym (map-set_same has_work nodes x (next (node_in nodes x)) blank same) ∙ sym (ap working_in changed)

set_at : (nodes : List Node) (x : ℕ) (n : Node) → x < length nodes → node_in (set nodes x n) x ≡ n
set_at [] x n there = absurd (omega arith)
set_at (m ∷ ns) zero n there = refl
set_at (m ∷ ns) (suc x) n there = set_at ns x n (omega arith)

-- a node that was changed
pub changed_at : (nodes new : List Node) (x : ℕ) (next : Node → Node) → x < length nodes → new ≡ on_site x next nodes
    → node_in new x ≡ next (node_in nodes x)
changed_at nodes new x next there changed =
    ap (λ (ns : List Node). node_in ns x) changed ∙ set_at nodes x (next (node_in nodes x)) there

-- a flag that was told of a node that was changed
pub flag_told : (nodes new : List Node) (flags : List Bool) (x : ℕ) (next : Node → Node) (on : Bool) → x < length nodes
    → flags ≡ working_in nodes → new ≡ on_site x next nodes → on ≡ has_work (node_in new x) → set flags x on ≡ working_in new
flag_told nodes new flags x next on there is changed told =
    flag_set nodes new flags x next on is changed (told ∙ ap has_work (changed_at nodes new x next there changed))

-- a node of a fabric is there in its present
pub node_there : (f : Fabric) (x : ℕ) → x < length f.sites.items → x < length (sites_of f.sites.items).nodes
node_there f x there = let many = length-map f.sites.items node_of in omega arith

-- the nodes change, and the rest of a fabric stays sound
pub sound_sites : (f g : Fabric) → IsSound f
    → g ≡ record f { sites = g.sites; working = g.working; requests = g.requests; answers = g.answers }
    → (sites_of g.sites.items).shapes ≡ (sites_of f.sites.items).shapes → g.working ≡ working_in (sites_of g.sites.items).nodes → IsSound g
sound_sites f g sound same shapes working = subst IsSound (sym same) (record {
  queues = sound.queues;
  room = sound.room;
  shapes = shapes ∙ sound.shapes;
  working = working;
  plans = sound.plans;
  txs = sound.txs;
  kinds = sound.kinds;
  items = sound.items;
  feeding = sound.feeding;
  few_streams = sound.few_streams;
  few_blocks = sound.few_blocks;
})

any_last : (a : Bool) → (a || true) ≡ true
any_last true = refl
any_last false = refl

last_there : (ps : List Packet) (p : Packet) → has_packet (ps ++ p ∷ []) ≡ true
last_there [] p = refl
last_there (q ∷ ps) p = refl

-- a node that an answer or a request is to leave
pub pending_works : (n : Node) (p : Packet) → true ≡ has_work (record n { pending = n.pending ++ p ∷ [] })
pending_works n p =
    sym (ap (λ (b : Bool). has_packet n.requests || b) (last_there n.pending p) ∙ any_last (has_packet n.requests))

pub request_works : (n : Node) (p : Packet) → true ≡ has_work (record n { requests = n.requests ++ p ∷ [] })
request_works n p = sym (ap (λ (b : Bool). b || has_packet n.pending) (last_there n.requests p))

idle_if : (b : Bool) (table : List Place) → false ≡ has_work (if b then record blank { table = table } else blank)
idle_if true table = refl
idle_if false table = refl

-- a net that is built has nothing to do
pub idle_from : (tree : Plan) (routed : Bool) (n a : ℕ) → replicate n false ≡ working_in (map (built_node tree routed) (range_with_len a n))
idle_from tree routed zero a = refl
idle_from tree routed (suc n) a =
    ap (λ (b : Bool). b ∷ replicate n false) (idle_if (is_switch tree a) (map (place_for tree routed a) (epids_of tree)))
    ∙ ap (λ (flags : List Bool). has_work (built_node tree routed a) ∷ flags) (idle_from tree routed n (a + 1))
