-- What enters the way of its stream, and what is lost on it.
use Rattle.std.proofs.Common.{◌≡◌, ℕ, ◌<◌, List, [], ◌∷◌, ◌++◌, length, sym, ◌∙◌, ap, subst, arith, set}
use Rattle.std.specs.Prelude.{Option, Some}
use Rattle.chdr_packets.specs.declared.packet.Body.{Body}
use Rattle.chdr_packets.specs.declared.packet.Body.TheVariants as body
use Rattle.chdr_words.specs.declared.epid.Epid.{Epid}
use Rattle.net_topology.specs.Links.{Avoids, NoneTwice}
use Rattle.net_machine.specs.declared.event.Event.TheVariants.{Lose}
use Rattle.net_machine.specs.Effects.{after, enters_over, leaves, loses_front, on_any_stream, stream_of}
use Rattle.net_machine.specs.Plans.{first_link, plan_at, stream_from, stream_to}
use Rattle.net_machine.specs.Queues.{back_vc, forward_vc, queue_of}
use Rattle.net_machine.specs.State.{Entry, State, queue_at}
use Rattle.net_machine.specs.Streams.{loses}
use Rattle.net_ways.specs.Entering.{EntersAhead, EntersBack, JoinsAhead, JoinsBack, LosesAhead, LosesBack}
use Rattle.net_ways.specs.Gather.{HasBetween, gather}
use Rattle.net_ways.specs.Hops.{GoesAhead, GoesBack, taken_in}
use Rattle.net_ways.specs.Ways.{HasQueues, IsLedTo, back_way, forward_way, pick_ahead, pick_back, queues_over, way_between}
use Rattle.net_ways.proofs.Coming.{for-consumer, for-producer}
use Rattle.net_ways.proofs.Gathering.{gather-joins, gather-loses}
use Rattle.net_ways.proofs.Leading.{over-queues, ways-begin}
use Rattle.net_ways.proofs.Moving.{ahead-none_back, back-none_ahead, less-unseen, more-unseen}

-- the first queue of a way
record FirstOf (w : State) (a b : Epid) (vc : ℕ) : Type 0 where
  link : ℕ
  behind : List ℕ
  first : first_link w.tree a ≡ Some link
  way : queues_over vc (way_between w.tree a b) ≡ queue_of link vc ∷ behind
  here : queue_of link vc < length w.queues
  off : Avoids (queue_of link vc) behind

first-of : (w : State) (a b : Epid) (vc : ℕ) → vc < 2 → HasQueues w → IsLedTo w a b → FirstOf w a b vc
first-of w a b vc small has leads =
    let begins = ways-begin w a b vc has leads in
    let over = over-queues w a b vc small has leads in
    record {
      link = begins.link;
      behind = begins.behind;
      first = begins.first;
      way = begins.way;
      here = over.there [] (queue_of begins.link vc) begins.behind begins.way;
      off = (subst NoneTwice begins.way over.once).0;
    }

pub enters-ahead : EntersAhead
enters-ahead w s e has leads kind to =
    let stream = plan_at w.plan s in
    let f = first-of w stream.from stream.to forward_vc (omega arith) has leads in
    subst (λ (o : Option ℕ). JoinsAhead w (enters_over o forward_vc e.marked e.packet e.tag w) s e) (sym f.first) (record {
      ahead = rw f.way (gather-joins (pick_ahead stream) w.queues (queue_of f.link forward_vc) f.behind e f.here f.off
          ∙ ap (λ es. gather (pick_ahead stream) w.queues (queue_of f.link forward_vc ∷ f.behind) ++ es) (for-consumer stream e e.packet.body kind to));
      back = more-unseen (pick_back stream) w.queues (back_way w.tree stream) (queue_of f.link forward_vc) e (ahead-none_back stream e e.packet.body kind);
    })

pub enters-back : EntersBack
enters-back w s e has leads kind to =
    let stream = plan_at w.plan s in
    let f = first-of w stream.to stream.from back_vc (omega arith) has leads in
    subst (λ (o : Option ℕ). JoinsBack w (enters_over o back_vc e.marked e.packet e.tag w) s e) (sym f.first) (record {
      ahead = more-unseen (pick_ahead stream) w.queues (forward_way w.tree stream) (queue_of f.link back_vc) e (back-none_ahead stream e e.packet.body kind);
      back = rw f.way (gather-joins (pick_back stream) w.queues (queue_of f.link back_vc) f.behind e f.here f.off
          ∙ ap (λ es. gather (pick_back stream) w.queues (queue_of f.link back_vc ∷ f.behind) ++ es) (for-producer stream e e.packet.body kind to));
    })

-- ---- losses

lost-of : (w : State) (s q : ℕ) (e : Entry) (rest : List Entry) → queue_at w.queues q ≡ e ∷ rest →
    stream_of w e.packet e.packet.body ≡ Some s → after w (Lose q) ≡ taken_in w s q rest (loses e)
unfolding after
lost-of w s q e rest is mine =
    ap (λ (entries : List Entry). loses_front q entries w) is
    ∙ ap (λ (o : Option ℕ). on_any_stream o (loses e) (leaves q rest w)) mine

of-consumer : (w : State) (s : ℕ) (e : Entry) (b : Body) → GoesAhead b → stream_to w.plan e.packet.dst ≡ Some s → stream_of w e.packet b ≡ Some s
of-consumer w s e (body.Samples time payload) kind mine = mine
of-consumer w s e (body.Command c) kind mine = mine
of-consumer w s e (body.Status status) kind mine = absurd kind
of-consumer w s e (body.Control control) kind mine = absurd kind
of-consumer w s e (body.Management m) kind mine = absurd kind

of-producer : (w : State) (s : ℕ) (e : Entry) (b : Body) → GoesBack b → stream_from w.plan e.packet.dst ≡ Some s → stream_of w e.packet b ≡ Some s
of-producer w s e (body.Samples time payload) kind mine = absurd kind
of-producer w s e (body.Command c) kind mine = absurd kind
of-producer w s e (body.Status status) kind mine = mine
of-producer w s e (body.Control control) kind mine = absurd kind
of-producer w s e (body.Management m) kind mine = absurd kind

pub loses-ahead : LosesAhead
loses-ahead w s q before behind e rest has leads mine is way kind to =
    let stream = plan_at w.plan s in
    let over = over-queues w stream.from stream.to forward_vc (omega arith) has leads in
    let lost = lost-of w s q e rest is (of-consumer w s e e.packet.body kind (ap (stream_to w.plan) to ∙ mine)) in
    let among : HasBetween (gather (pick_ahead stream) w.queues (forward_way w.tree stream)) (gather (pick_ahead stream) (set w.queues q rest) (forward_way w.tree stream)) (e ∷ []) =
    rw way (subst (λ es. HasBetween (gather (pick_ahead stream) w.queues (before ++ q ∷ behind)) (gather (pick_ahead stream) (set w.queues q rest) (before ++ q ∷ behind)) es)
    (for-consumer stream e e.packet.body kind to)
    (gather-loses (pick_ahead stream) w.queues before q behind e rest (over.there before q behind way) (subst NoneTwice way over.once) is)) in
    record {
      lost = lost;
      ahead = subst (λ (v : State). HasBetween (gather (pick_ahead stream) w.queues (forward_way w.tree stream)) (gather (pick_ahead (plan_at v.plan s)) v.queues (forward_way v.tree (plan_at v.plan s))) (e ∷ [])) (sym lost) among;
      back = subst (λ (v : State). gather (pick_back (plan_at v.plan s)) v.queues (back_way v.tree (plan_at v.plan s)) ≡ gather (pick_back stream) w.queues (back_way w.tree stream)) (sym lost)
          (less-unseen (pick_back stream) w.queues (back_way w.tree stream) q e rest is (ahead-none_back stream e e.packet.body kind));
    }

pub loses-back : LosesBack
loses-back w s q before behind e rest has leads mine is way kind to =
    let stream = plan_at w.plan s in
    let over = over-queues w stream.to stream.from back_vc (omega arith) has leads in
    let lost = lost-of w s q e rest is (of-producer w s e e.packet.body kind (ap (stream_from w.plan) to ∙ mine)) in
    let among : HasBetween (gather (pick_back stream) w.queues (back_way w.tree stream)) (gather (pick_back stream) (set w.queues q rest) (back_way w.tree stream)) (e ∷ []) =
    rw way (subst (λ es. HasBetween (gather (pick_back stream) w.queues (before ++ q ∷ behind)) (gather (pick_back stream) (set w.queues q rest) (before ++ q ∷ behind)) es)
    (for-producer stream e e.packet.body kind to)
    (gather-loses (pick_back stream) w.queues before q behind e rest (over.there before q behind way) (subst NoneTwice way over.once) is)) in
    record {
      lost = lost;
      ahead = subst (λ (v : State). gather (pick_ahead (plan_at v.plan s)) v.queues (forward_way v.tree (plan_at v.plan s)) ≡ gather (pick_ahead stream) w.queues (forward_way w.tree stream)) (sym lost)
          (less-unseen (pick_ahead stream) w.queues (forward_way w.tree stream) q e rest is (back-none_ahead stream e e.packet.body kind));
      back = subst (λ (v : State). HasBetween (gather (pick_back stream) w.queues (back_way w.tree stream)) (gather (pick_back (plan_at v.plan s)) v.queues (back_way v.tree (plan_at v.plan s))) (e ∷ [])) (sym lost) among;
    }
