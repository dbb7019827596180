-- What is known of the present of a lawful state, in the present's own words.
use Rattle.std.proofs.Common.{◌≡◌, ℕ, ◌<◌, ◌≤◌, ◌⊎◌, inl, inr, Bool, true, false, length, refl, sym, ◌∙◌, ap, subst, arith}
use Rattle.std.specs.Prelude.{Option, Some, None, nat_lt, ◌&&◌}
use Rattle.std.proofs.Math.ListN.{get_or-map}
use Rattle.std.proofs.lemmas.Bool.{cases_lt, false≢true}
use Rattle.std.proofs.lemmas.Bool.Decides.{nat_tests}
use Rattle.std.proofs.lemmas.List.{get_or_past, length-map}
use Rattle.std.proofs.lemmas.Option.{option_and_then_some}
use Rattle.chdr_words.specs.declared.epid.Epid.{Epid}
use Rattle.net_topology.specs.Links.{link_at}
use Rattle.net_topology.specs.Tree.{IsTree, node_with}
use Rattle.net_topology.specs.declared.plan.Plan.{Plan}
use Rattle.net_topology.proofs.Laws.{links_leave_by_ports}
use Rattle.net_machine.specs.declared.plan.RunPlan.{RunPlan}
use Rattle.net_machine.specs.Conditions.{has_place_over}
use Rattle.net_machine.specs.Front.{StreamFront, front_at, stream_front}
use Rattle.net_machine.specs.Plans.{first_link}
use Rattle.net_machine.specs.Queues.{link_count, queue_count, queue_of}
use Rattle.net_machine.specs.State.{State, idle}
use Rattle.net_present.specs.Kept.{IsNow, idle_now, now_at}
use Rattle.net_present.specs.Present.{Present, StreamNow, front_now, front_now_of}
use Rattle.net_flows.specs.Lasting.{IsSound}
use Rattle.net_lawful.specs.Lawful.{Lawful}
use Rattle.net_lawful.specs.Messages.{FitsTree}
use Rattle.net_needs.specs.Entering.{HasRoomOver}

pub record Knows (p : Present) : Type 0 where
  pub tree : IsTree p.tree
  pub fits : FitsTree p.tree
  pub queues : length p.queues ≡ queue_count p.tree
  pub sound : IsSound p.tree p.plan
  pub streams : length p.streams ≡ length p.plan.streams
  pub blocks : length p.blocks ≡ length p.plan.blocks

pub knows : (p : Present) (w : State) → Lawful w → IsNow p w → Knows p
knows p w lawful now =
    let steady = lawful.steady in
    let queues : length p.queues ≡ length w.queues = ap length now.queues ∙ length-map _ _ in
    record {
      tree = subst IsTree (sym now.tree) steady.queues.tree;
      fits = subst FitsTree (sym now.tree) lawful.tree;
      queues = queues ∙ steady.queues.queues ∙ ap queue_count (sym now.tree);
      sound = subst (λ (t : Plan). IsSound t p.plan) (sym now.tree) (subst (IsSound w.tree) (sym now.plan) steady.plan);
      streams = now.as_many_streams ∙ steady.as_many ∙ ap (λ (r : RunPlan). length r.streams) (sym now.plan);
      blocks = now.as_many_blocks ∙ ap (λ (r : RunPlan). length r.blocks) (sym now.plan);
    }

-- ---- tests

pub both-first : (a b : Bool) → (a && b) ≡ true → a ≡ true
both-first true b h = refl
both-first false b h = h

pub both-second : (a b : Bool) → (a && b) ≡ true → b ≡ true
both-second true b h = h
both-second false b h = absurd (false≢true h)

-- ---- streams

-- what conditions read of stream s is what is kept of it
pub front-is : (p : Present) (s : ℕ) → front_at (front_now p) s ≡ front_now_of (now_at p.streams s)
front-is p s = get_or-map front_now_of p.streams s idle_now

-- a stream that isn't there is idle
pub idle-past : (p : Present) (s : ℕ) → length p.streams ≤ s → now_at p.streams s ≡ idle_now
idle-past p s past = get_or_past p.streams s idle_now past

-- a stream of which a test of its front holds is there, if none of the idle one's does
pub there-by : (p : Present) (s : ℕ) (test : StreamFront → Bool) → test (stream_front idle) ≡ false → test (front_now_of (now_at p.streams s)) ≡ true → s < length p.streams
there-by p s test none holds = by_order (cases_lt s (length p.streams))
  where
    by_order : (s < length p.streams) ⊎ (length p.streams ≤ s) → s < length p.streams
    by_order (inl lt) = lt
    by_order (inr past) =
        absurd (false≢true (sym none ∙ ap (λ (st : StreamNow). test (front_now_of st)) (sym (idle-past p s past)) ∙ holds))

-- ---- links

pub leaving-there : (tree : Plan) (x port d : ℕ) → link_at tree.links x port ≡ Some d → d < link_count tree
leaving-there tree x port d is = (links_leave_by_ports tree d x port is).2

pub first-there : (tree : Plan) (epid : Epid) (d : ℕ) → first_link tree epid ≡ Some d → d < link_count tree
first-there tree epid d is =
    option_and_then_some (λ x. link_at tree.links x 0) (node_with tree.nodes epid) d is (λ x found at. leaving-there tree x 0 d at)

pub queue-within : (p : Present) (d vc : ℕ) → Knows p → vc < 2 → d < link_count p.tree → queue_of d vc < length p.queues
queue-within p d vc known low there = let many = known.queues in omega arith

pub lt-from : (a b : ℕ) → nat_lt a b ≡ true → a < b
lt-from a b is = grind (arith, nat_tests)

pub room-over : (p : Present) (vc : ℕ) (link : Option ℕ) → Knows p → vc < 2 → ((d : ℕ) → link ≡ Some d → d < link_count p.tree) →
    has_place_over (front_now p) vc link ≡ true → HasRoomOver p vc link
room-over p vc None known low each has = absurd (false≢true has)
room-over p vc (Some d) known low each has = record {
  first = d;
  is = refl;
  room = record { link = each d refl; queue = queue-within p d vc known low (each d refl); room = lt-from _ _ has };
}
