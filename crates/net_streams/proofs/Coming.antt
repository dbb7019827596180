-- Packets, commands and statuses that come to the end of their way are acts of their stream.
use Rattle.std.proofs.Common.{◌≡◌, ℕ, ◌==◌, ◌⊎◌, Bool, true, false, List, [], ◌∷◌, ◌++◌, refl, sym, ◌∙◌, ap, subst, Option, None, Some, inl, inr, cond}
use Rattle.std.specs.List.{flat_map}
use Rattle.std.proofs.lemmas.List.{length-map, map-append}
use Rattle.chdr_packets.specs.Length.{wire_of}
use Rattle.chdr_packets.specs.declared.packet.Body.{Body}
use Rattle.chdr_packets.specs.declared.packet.Body.TheVariants as body
use Rattle.chdr_packets.specs.declared.packet.Packet.{Packet}
use Rattle.chdr_words.specs.declared.command.CmdOp.{CmdOp}
use Rattle.chdr_words.specs.declared.command.CmdOp.TheVariants.{Init, Ping, Resync, Other}
use Rattle.chdr_words.specs.declared.command.Command.{Command}
use Rattle.stream_endpoint.specs.Epochs.{Told}
use Rattle.stream_endpoint.specs.Receiver.{arrival, arrives, expected}
use Rattle.stream_endpoint.specs.declared.count.Count.{Count}
use Rattle.stream_endpoint.specs.declared.state.Arrived.{Arrived}
use Rattle.stream_endpoint.specs.declared.state.Arrived.TheVariants.{Kept, Discarded, Gap as GapAt}
use Rattle.stream_endpoint.specs.declared.state.Gap.{Gap}
use Rattle.stream_laws.specs.Acts.{Act, Break, Discard, Hear, Keep, Obey, Renew, after as act_after}
use Rattle.stream_laws.specs.Effects.{drops_core, hears_core, keeps_core, obeys_core, renews_core}
use Rattle.stream_laws.specs.Machine.{Core, Entry as Flight, Data, Command as Ordered, Load, State as OneStream, number_at}
use Rattle.net_machine.specs.declared.event.Event.TheVariants as event
use Rattle.net_machine.specs.declared.plan.StreamPlan.{StreamPlan}
use Rattle.net_machine.specs.Effects.{after, leaves}
use Rattle.net_machine.specs.Plans.{plan_at}
use Rattle.net_machine.specs.State.{Entry, State, Stream, Tag, Sample, Order, stream_at}
use Rattle.net_machine.specs.Streams.{counts_in, gets, gets_order, gets_status, kept_by, told_in}
use Rattle.net_ways.proofs.Laws.{commands_come, samples_come, statuses_come}
use Rattle.net_ways.specs.Hops.{ComesAhead, ComesBack}
use Rattle.net_ways.specs.Ways.{ahead, back}
use Rattle.net_streams.specs.Acting.{Acts, CommandsAct, IsShown, SamplesAct, StatusesAct}
use Rattle.net_streams.specs.Shows.{Shows, core_of, flight_by, flight_of, load_of, loads_of, told_of, terms_of}
use Rattle.net_streams.proofs.Showing.{shown-by}

-- ---- what comes to the consumer

-- the stream takes the first entry under way to its consumer; what is left is under way still
abbrev left_ahead : State → ℕ → ℕ → List Entry → List (Flight Packet)
left_ahead w s q rest = flat_map flight_of (ahead (leaves q rest w) s)

came-first : (w : State) (s q : ℕ) (closed : Bool) (st : OneStream Packet) (e : Entry) (rest : List Entry) (next : Stream → Stream) (flight : Flight Packet) →
    Shows w s closed st → ComesAhead w s q e rest next → flight_of e ≡ flight ∷ [] → st.forward ≡ flight ∷ left_ahead w s q rest
came-first w s q closed st e rest next flight shows comes is =
    shows.forward
    ∙ ap (λ (es : List Entry). flat_map flight_of es) (comes.leaves.ahead ∙ ap (λ (v : State). e ∷ ahead v s) comes.comes)
    ∙ ap (λ (f : List (Flight Packet)). f ++ left_ahead w s q rest) is

came-shows : (w : State) (s q : ℕ) (closed : Bool) (st new : OneStream Packet) (e : Entry) (rest : List Entry) (next : Stream → Stream) →
    IsShown w s closed st → ComesAhead w s q e rest next → new.core ≡ core_of (plan_at w.plan s) closed (next (stream_at w s)) →
    new.forward ≡ left_ahead w s q rest → new.back ≡ st.back → Shows (after w (event.Hop q)) s closed new
came-shows w s q closed st new e rest next shown comes core forward behind =
    let same : back (leaves q rest w) s ≡ back w s = sym (ap (λ (v : State). back v s) comes.comes) ∙ comes.leaves.back in
    subst (λ (v : State). Shows v s closed new) (sym comes.comes)
    (shown-by w (leaves q rest w) s closed next new refl refl shown.there core forward
    (behind ∙ shown.shows.back ∙ ap (λ (es : List Entry). flat_map told_of es) (sym same)))

-- ---- samples

data-of : (e : Entry) (b : Body) (time : Option ℕ) (payload : List ℕ) (place : ℕ) → b ≡ body.Samples time payload → e.tag ≡ Sample place →
    flight_by e.tag e.packet b ≡ Data place (load_of e.packet) ∷ []
data-of e b time payload place is tag = rw (is, tag) refl

-- what becomes of a packet, by the receiver's gap
arrivals : (broken : Option Gap) (wanted number : ℕ) → (arrival broken wanted number ≡ Kept) ⊎ ((arrival broken wanted number ≡ GapAt wanted number) ⊎ (arrival broken wanted number ≡ Discarded))
arrivals None wanted number = by_test (number == wanted)
  where
    by_test : (b : Bool) → (cond b Kept (GapAt wanted number) ≡ Kept) ⊎ ((cond b Kept (GapAt wanted number) ≡ GapAt wanted number) ⊎ (cond b Kept (GapAt wanted number) ≡ Discarded))
    by_test true = inl refl
    by_test false = inr (inl refl)
arrivals (Some gap) wanted number = inr (inr refl)

abbrev got : StreamPlan → Bool → Stream → Packet → Arrived → Core Packet
got plan closed st p a = record (core_of plan closed st) {
  receiver = arrives p.seq (wire_of p) st.receiver;
  given = loads_of (kept_by a p st.given);
}

core-kept : (plan : StreamPlan) (closed : Bool) (st : Stream) (p : Packet) (number : ℕ) → p.seq ≡ number → arrival st.receiver.broken (expected st.receiver) number ≡ Kept →
    keeps_core number (load_of p) (core_of plan closed st) ≡ core_of plan closed (gets p st)
core-kept plan closed st p number seq is =
    subst (λ (n : ℕ). arrival st.receiver.broken (expected st.receiver) n ≡ Kept → keeps_core n (load_of p) (core_of plan closed st) ≡ core_of plan closed (gets p st)) seq
    (λ kept. ap (λ (given : List (Load Packet)). record (core_of plan closed st) { receiver = arrives p.seq (wire_of p) st.receiver; given = given }) (sym (map-append load_of st.given (p ∷ [])))
    ∙ ap (got plan closed st p) (sym kept)) is

core-dropped : (plan : StreamPlan) (closed : Bool) (st : Stream) (p : Packet) (number : ℕ) (a : Arrived) → p.seq ≡ number → arrival st.receiver.broken (expected st.receiver) number ≡ a →
    kept_by a p st.given ≡ st.given → drops_core number (load_of p) (core_of plan closed st) ≡ core_of plan closed (gets p st)
core-dropped plan closed st p number a seq is same =
    subst (λ (n : ℕ). arrival st.receiver.broken (expected st.receiver) n ≡ a → drops_core n (load_of p) (core_of plan closed st) ≡ core_of plan closed (gets p st)) seq
    (λ so. ap (λ (given : List Packet). record (core_of plan closed st) { receiver = arrives p.seq (wire_of p) st.receiver; given = loads_of given }) (sym same)
    ∙ ap (got plan closed st p) (sym so)) is

pub samples_act : SamplesAct
samples_act w s q closed st e rest time payload place shown at is_samples tag seq =
    by_arrival (arrivals (stream_at w s).receiver.broken (expected (stream_at w s).receiver) (number_at (terms_of (plan_at w.plan s)) place))
  where
    number : ℕ
    number = number_at (terms_of (plan_at w.plan s)) place

    comes : ComesAhead w s q e rest (gets e.packet)
    comes = samples_come w s q at.before e rest time payload shown.queues at.forth at.mine at.front at.way is_samples at.dst

    first : st.forward ≡ Data place (load_of e.packet) ∷ left_ahead w s q rest
    first = came-first w s q closed st e rest (gets e.packet) (Data place (load_of e.packet)) shown.shows comes (data-of e e.packet.body time payload place is_samples tag)

    so : (a : Arrived) → arrival (stream_at w s).receiver.broken (expected (stream_at w s).receiver) number ≡ a → arrival st.core.receiver.broken (expected st.core.receiver) number ≡ a
    so a is = ap (λ (c : Core Packet). arrival c.receiver.broken (expected c.receiver) number) shown.shows.core ∙ is

    shows_with : (act : Act Packet) → (act_after (terms_of (plan_at w.plan s)) st act).core ≡ core_of (plan_at w.plan s) closed (gets e.packet (stream_at w s)) →
        (act_after (terms_of (plan_at w.plan s)) st act).forward ≡ left_ahead w s q rest → (act_after (terms_of (plan_at w.plan s)) st act).back ≡ st.back →
        Shows (after w (event.Hop q)) s closed (act_after (terms_of (plan_at w.plan s)) st act)
    shows_with act core forward behind = came-shows w s q closed st (act_after (terms_of (plan_at w.plan s)) st act) e rest (gets e.packet) shown comes core forward behind

    by_arrival : (arrival (stream_at w s).receiver.broken (expected (stream_at w s).receiver) number ≡ Kept)
        ⊎ ((arrival (stream_at w s).receiver.broken (expected (stream_at w s).receiver) number ≡ GapAt (expected (stream_at w s).receiver) number)
        ⊎ (arrival (stream_at w s).receiver.broken (expected (stream_at w s).receiver) number ≡ Discarded)) → Acts w (after w (event.Hop q)) s closed st
    by_arrival (inl kept) = record {
      act = Keep place (load_of e.packet) (left_ahead w s q rest);
      allowed = (first, so Kept kept);
      shows = shows_with (Keep place (load_of e.packet) (left_ahead w s q rest))
          (ap (keeps_core number (load_of e.packet)) shown.shows.core ∙ core-kept (plan_at w.plan s) closed (stream_at w s) e.packet number seq kept) refl refl;
    }
    by_arrival (inr (inl gap)) = record {
      act = Break place (load_of e.packet) (left_ahead w s q rest);
      allowed = (first, so _ gap ∙ ap (λ (c : Core Packet). GapAt (expected c.receiver) number) (sym shown.shows.core));
      shows = shows_with (Break place (load_of e.packet) (left_ahead w s q rest))
          (ap (drops_core number (load_of e.packet)) shown.shows.core ∙ core-dropped (plan_at w.plan s) closed (stream_at w s) e.packet number _ seq gap refl) refl refl;
    }
    by_arrival (inr (inr gone)) = record {
      act = Discard place (load_of e.packet) (left_ahead w s q rest);
      allowed = (first, so Discarded gone);
      shows = shows_with (Discard place (load_of e.packet) (left_ahead w s q rest))
          (ap (drops_core number (load_of e.packet)) shown.shows.core ∙ core-dropped (plan_at w.plan s) closed (stream_at w s) e.packet number Discarded seq gone refl) refl refl;
    }

-- ---- commands

command-of : (e : Entry) (b : Body) (c : Command) (counts : Count) → b ≡ body.Command c → e.tag ≡ Order counts → flight_by e.tag e.packet b ≡ Ordered c.op counts ∷ []
command-of e b c counts is tag = rw (is, tag) refl

not-resync : (op : CmdOp) → (op ≡ Init) ⊎ (op ≡ Ping) → op ≡ Resync → ⊥
not-resync op (inl init) is = cc
not-resync op (inr ping) is = cc

core-obeyed : (plan : StreamPlan) (closed : Bool) (st : Stream) (op : CmdOp) (counts : Count) → (op ≡ Init) ⊎ (op ≡ Ping) →
    obeys_core op counts (core_of plan closed st) ≡ core_of plan closed (gets_order op counts st)
core-obeyed plan closed st Init counts which = refl
core-obeyed plan closed st Ping counts which = refl
core-obeyed plan closed st Resync counts (inl e) = absurd (not-resync Resync (inl e) refl)
core-obeyed plan closed st Resync counts (inr e) = absurd (not-resync Resync (inr e) refl)
core-obeyed plan closed st (Other code) counts which = refl

core-renewed : (plan : StreamPlan) (closed : Bool) (st : Stream) (counts : Count) →
    renews_core counts (core_of plan closed st) ≡ core_of plan closed (gets_order Resync counts st)
core-renewed plan closed st counts = rw (length-map st.sent load_of, length-map st.given load_of) refl

pub commands_act : CommandsAct
commands_act w s q closed st e rest c counts shown at is_command tag which = by_op which
  where
    plan : StreamPlan
    plan = plan_at w.plan s

    comes : ComesAhead w s q e rest (gets_order c.op counts)
    comes = subst (λ (t : Tag). ComesAhead w s q e rest (gets_order c.op (counts_in t))) tag
        (commands_come w s q at.before e rest c shown.queues at.forth at.mine at.front at.way is_command at.dst)

    first : st.forward ≡ Ordered c.op counts ∷ left_ahead w s q rest
    first = came-first w s q closed st e rest (gets_order c.op counts) (Ordered c.op counts) shown.shows comes (command-of e e.packet.body c counts is_command tag)

    obeyed : (c.op ≡ Init) ⊎ (c.op ≡ Ping) → Acts w (after w (event.Hop q)) s closed st
    obeyed op = record {
      act = Obey c.op counts (left_ahead w s q rest);
      allowed = (first, not-resync c.op op);
      shows = came-shows w s q closed st (act_after (terms_of plan) st (Obey c.op counts (left_ahead w s q rest))) e rest (gets_order c.op counts) shown comes
          (ap (obeys_core c.op counts) shown.shows.core ∙ core-obeyed plan closed (stream_at w s) c.op counts op) refl refl;
    }

    by_op : (c.op ≡ Init) ⊎ ((c.op ≡ Ping) ⊎ (c.op ≡ Resync)) → Acts w (after w (event.Hop q)) s closed st
    by_op (inl init) = obeyed (inl init)
    by_op (inr (inl ping)) = obeyed (inr ping)
    by_op (inr (inr resync)) = record {
      act = Renew counts (left_ahead w s q rest);
      allowed = first ∙ ap (λ (op : CmdOp). Ordered op counts ∷ left_ahead w s q rest) resync;
      shows = came-shows w s q closed st (act_after (terms_of plan) st (Renew counts (left_ahead w s q rest))) e rest (gets_order c.op counts) shown comes
          (ap (renews_core counts) shown.shows.core ∙ core-renewed plan closed (stream_at w s) counts
          ∙ ap (λ (op : CmdOp). core_of plan closed (gets_order op counts (stream_at w s))) (sym resync)) refl refl;
    }

-- ---- statuses

pub statuses_act : StatusesAct
statuses_act w s q closed st e rest status told shown at is_status tag = record {
  act = Hear told left;
  allowed = shown.shows.back
      ∙ ap (λ (es : List Entry). flat_map told_of es) (comes.leaves.back ∙ ap (λ (v : State). e ∷ back v s) comes.comes)
      ∙ ap (λ (t : List Told). t ++ left) told_is;
  shows = subst (λ (v : State). Shows v s closed (act_after (terms_of plan) st (Hear told left))) (sym comes.comes)
      (shown-by w (leaves q rest w) s closed (gets_status plan told) (act_after (terms_of plan) st (Hear told left)) refl refl shown.there
      (ap (hears_core plan.policy told) shown.shows.core)
      (shown.shows.forward ∙ ap (λ (es : List Entry). flat_map flight_of es) (sym (sym (ap (λ (v : State). ahead v s) comes.comes) ∙ comes.leaves.ahead))) refl);
}
  where
    plan : StreamPlan
    plan = plan_at w.plan s

    comes : ComesBack w s q e rest (gets_status plan told)
    comes = subst (λ (t : Tag). ComesBack w s q e rest (gets_status plan (told_in t))) tag
        (statuses_come w s q at.before e rest status shown.queues at.back at.mine at.front at.way is_status at.dst)

    left : List Told
    left = flat_map told_of (back (leaves q rest w) s)

    told_is : told_of e ≡ told ∷ []
    told_is = rw tag refl
