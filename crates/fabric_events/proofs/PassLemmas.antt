-- What an entry asks that passes a node, and what becomes of it.
use Rattle.std.proofs.Common.{◌≡◌, ℕ, zero, suc, ◌<◌, ◌≤◌, Bool, true, false, List, [], ◌∷◌, length, refl, sym, ◌∙◌, ap, subst, set, Option, None, Some, arith}
use Rattle.std.specs.Prelude.{◌==◌, if◌then◌else◌}
use Rattle.std.proofs.lemmas.List.{length-set}
use Rattle.block_registers.specs.Registers.{Registers}
use Rattle.chdr_packets.specs.declared.packet.Body.{Body}
use Rattle.chdr_packets.specs.declared.packet.Body.TheVariants as body
use Rattle.chdr_packets.specs.declared.packet.Packet.{Packet}
use Rattle.chdr_words.specs.declared.management.Management.{Management}
use Rattle.net_topology.specs.declared.plan.Plan.{Plan}
use Rattle.net_machine.specs.Front.{Queued}
use Rattle.net_machine.specs.Passing.{Outcome, Passes, Returns, Arrives, Ends, goes_on, passing, passing_by, walks}
use Rattle.net_machine.specs.Queues.{channel_of, link_of_queue, queue_of}
use Rattle.net_machine.specs.State.{Node}
use Rattle.net_present.specs.Onward.{entries_at, hops_now, leaves_now}
use Rattle.net_present.specs.Present.{Present}
use Rattle.net_needs.specs.Hopping.{BodyNeeds, HasWayOn}
use Rattle.fabric_nodes.specs.Exits.{walking_of}
use Rattle.fabric_events.specs.Walking.{moves_by}
use Rattle.fabric_events.proofs.WalkLemmas.{with_banks}

-- a packet that nodes perform is a management packet
walker_if : (t : Bool) (n m : Management) → (if t then Some n else None) ≡ Some m → body.Management n ≡ body.Management m
walker_if true n m is = let same : n ≡ m = cc in ap (λ (k : Management). body.Management k) same
walker_if false n m is = cc

pub walker_body : (p : Packet) (b : Body) (m : Management) → walking_of p b ≡ Some m → b ≡ body.Management m
walker_body p (body.Samples time payload) m is = cc
walker_body p (body.Status status) m is = cc
walker_body p (body.Command command) m is = cc
walker_body p (body.Control control) m is = cc
walker_body p (body.Management n) m is = walker_if (p.dst.0 == 0) n m is

-- a packet that nodes perform walks, and another goes by tables
walks_if : (tree : Plan) (nodes : List Node) (d : ℕ) (p : Packet) (t : Bool) (n m : Management) → (if t then Some m else None) ≡ Some n
    → (if t then walks tree nodes d p m else goes_on tree nodes d p) ≡ walks tree nodes d p m
walks_if tree nodes d p true n m is = refl
walks_if tree nodes d p false n m is = cc

pub passing_walks : (tree : Plan) (nodes : List Node) (d : ℕ) (p : Packet) (n m : Management) → walking_of p p.body ≡ Some n → p.body ≡ body.Management m
    → passing tree nodes d p ≡ walks tree nodes d p m
passing_walks tree nodes d p n m walker is =
    ap (λ (b : Body). passing_by tree nodes d p b) is
    ∙ walks_if tree nodes d p (p.dst.0 == 0) n m (subst (λ (b : Body). walking_of p b ≡ Some n) is walker)

-- a queue that gives an entry away has more room, and the others as much
shorter : (queues : List (List Queued)) (q k : ℕ) (e : Queued) (rest : List Queued) → entries_at queues q ≡ e ∷ rest
    → length (entries_at (set queues q rest) k) ≤ length (entries_at queues k)
shorter [] q k e rest is = omega arith
shorter (x ∷ xs) zero zero e rest is = let l = ap (λ (es : List Queued). length es) is in omega arith
shorter (x ∷ xs) zero (suc k) e rest is = omega arith
shorter (x ∷ xs) (suc q) zero e rest is = omega arith
shorter (x ∷ xs) (suc q) (suc k) e rest is = shorter xs q k e rest is

pub way_kept : (p : Present) (q vc : ℕ) (e : Queued) (rest : List Queued) (o : Outcome) → entries_at p.queues q ≡ e ∷ rest
    → HasWayOn p vc o → HasWayOn (leaves_now q rest p) vc o
way_kept p q vc e rest (Passes d packet) is way =
    let less = shorter p.queues q (queue_of d vc) e rest is in
    let room = way.room in
    record {
      link = way.link;
      queue = subst (λ (n : ℕ). queue_of d vc < n) (sym (length-set p.queues q rest)) way.queue;
      room = omega arith;
    }
way_kept p q vc e rest (Returns packet) is way = tt
way_kept p q vc e rest Arrives is way = tt
way_kept p q vc e rest Ends is way = tt

-- the entry that a queue gave is its front one
pub same_entry : (e entry : Queued) → Some e ≡ Some entry → e ≡ entry
same_entry e entry is = cc

pub no_entry : (e : Queued) → let none : Option Queued = None in none ≡ Some e → ⊥
no_entry e is = cc

-- what a packet asks doesn't depend on the queues
pub body_kept : (p : Present) (queues : List (List Queued)) (x : ℕ) (packet : Packet) (b : Body) → BodyNeeds p x packet b
    → BodyNeeds (record p { queues = queues }) x packet b
body_kept p queues x packet (body.Samples time payload) needs =
    (λ s ends to. let need = needs s ends to in record { there = need.there; room = need.room; short = need.short })
body_kept p queues x packet (body.Command c) needs = needs
body_kept p queues x packet (body.Status status) needs = needs
body_kept p queues x packet (body.Control c) needs = record { fits = needs.fits; blocks = needs.blocks }
body_kept p queues x packet (body.Management m) needs = needs

-- the front entry leaves its queue and goes on: a hop
pub hop_is : (p : Present) (q : ℕ) (e entry : Queued) (rest : List Queued) (queues : List (List Queued)) (banks : List (Option Registers))
    → entries_at p.queues q ≡ e ∷ rest → e ≡ entry → queues ≡ set p.queues q rest
    → moves_by (link_of_queue q) (channel_of q) entry (passing p.tree p.nodes (link_of_queue q) entry.packet) (with_banks (record p { queues = queues }) banks)
    ≡ hops_now q (entries_at p.queues q) (with_banks p banks)
hop_is p q e entry rest queues banks is front left =
    let link = link_of_queue q in
    ap (λ (o : Queued). moves_by link (channel_of q) o (passing p.tree p.nodes link o.packet) (with_banks (record p { queues = queues }) banks)) (sym front)
    ∙ ap (λ (es : List (List Queued)). moves_by link (channel_of q) e (passing p.tree p.nodes link e.packet) (with_banks (record p { queues = es }) banks)) left
    ∙ sym (ap (λ (es : List Queued). hops_now q es (with_banks p banks)) is)
