-- Packets, commands and statuses that are lost on their way are losses of their stream.
use Rattle.std.proofs.Common.{◌≡◌, ℕ, Bool, List, [], ◌∷◌, ◌++◌, refl, sym, ◌∙◌, ap, subst, Option}
use Rattle.std.specs.List.{flat_map}
use Rattle.std.proofs.lemmas.Grind.{flat_map-append}
use Rattle.chdr_packets.specs.declared.packet.Body.{Body}
use Rattle.chdr_packets.specs.declared.packet.Body.TheVariants as body
use Rattle.chdr_packets.specs.declared.packet.Packet.{Packet}
use Rattle.chdr_words.specs.declared.command.Command.{Command}
use Rattle.stream_endpoint.specs.Epochs.{Told}
use Rattle.stream_endpoint.specs.declared.count.Count.{Count}
use Rattle.stream_laws.specs.Acts.{LoseCommand, LosePacket, LoseStatus, after as act_after}
use Rattle.stream_laws.specs.Effects.{loses_message, loses_packet}
use Rattle.stream_laws.specs.Machine.{Entry as Flight, Data, Command as Ordered, State as OneStream}
use Rattle.net_machine.specs.declared.event.Event.TheVariants as event
use Rattle.net_machine.specs.declared.plan.StreamPlan.{StreamPlan}
use Rattle.net_machine.specs.Effects.{after, leaves}
use Rattle.net_machine.specs.Plans.{plan_at}
use Rattle.net_machine.specs.State.{Entry, State, Stream, Sample, Order, Report, stream_at}
use Rattle.net_machine.specs.Streams.{loses}
use Rattle.net_ways.proofs.Laws.{loses_ahead, loses_back}
use Rattle.net_ways.specs.Entering.{LostAhead, LostBack}
use Rattle.net_ways.specs.Hops.{GoesAhead, GoesBack}
use Rattle.net_ways.specs.Ways.{ahead, back}
use Rattle.net_streams.specs.Acting.{CommandsLost, IsAhead, IsShown, SamplesLost, StatusesLost}
use Rattle.net_streams.specs.Shows.{Shows, core_of, flight_by, flight_of, load_of, terms_of, told_of}
use Rattle.net_streams.proofs.Showing.{shown-by}

-- ---- on the way to the consumer

lost-ahead : (w : State) (s q : ℕ) (closed : Bool) (st : OneStream Packet) (e : Entry) (rest : List Entry) → IsShown w s closed st → IsAhead w s q e rest →
    GoesAhead e.packet.body → LostAhead w s q e rest
lost-ahead w s q closed st e rest shown at goes =
    loses_ahead w s q at.before at.behind e rest shown.queues at.forth at.mine at.front at.way goes at.dst

-- what was under way has the lost entry between those before and behind it
split-ahead : (w : State) (s q : ℕ) (closed : Bool) (st : OneStream Packet) (e : Entry) (rest : List Entry) (flight : Flight Packet) → Shows w s closed st →
    (lost : LostAhead w s q e rest) → flight_of e ≡ flight ∷ [] → st.forward ≡ flat_map flight_of lost.ahead.before ++ flight ∷ flat_map flight_of lost.ahead.behind
split-ahead w s q closed st e rest flight shows lost is =
    shows.forward
    ∙ ap (λ (es : List Entry). flat_map flight_of es) lost.ahead.with_it
    ∙ flat_map-append flight_of lost.ahead.before (e ∷ lost.ahead.behind)
    ∙ ap (λ (f : List (Flight Packet)). flat_map flight_of lost.ahead.before ++ (f ++ flat_map flight_of lost.ahead.behind)) is

left-ahead : (w : State) (s q : ℕ) (e : Entry) (rest : List Entry) → (lost : LostAhead w s q e rest) →
    flat_map flight_of lost.ahead.before ++ flat_map flight_of lost.ahead.behind ≡ flat_map flight_of (ahead (leaves q rest w) s)
left-ahead w s q e rest lost =
    sym (flat_map-append flight_of lost.ahead.before lost.ahead.behind)
    ∙ ap (λ (es : List Entry). flat_map flight_of es) (sym lost.ahead.without ∙ ap (λ (v : State). ahead v s) lost.lost)

shows-lost : (w : State) (s q : ℕ) (closed : Bool) (st new : OneStream Packet) (e : Entry) (rest : List Entry) → IsShown w s closed st → (lost : LostAhead w s q e rest) →
    new.core ≡ core_of (plan_at w.plan s) closed (loses e (stream_at w s)) →
    new.forward ≡ flat_map flight_of lost.ahead.before ++ flat_map flight_of lost.ahead.behind → new.back ≡ st.back → Shows (after w (event.Lose q)) s closed new
shows-lost w s q closed st new e rest shown lost core forward behind =
    let same : back (leaves q rest w) s ≡ back w s = sym (ap (λ (v : State). back v s) lost.lost) ∙ lost.back in
    subst (λ (v : State). Shows v s closed new) (sym lost.lost)
    (shown-by w (leaves q rest w) s closed (loses e) new refl refl shown.there core (forward ∙ left-ahead w s q e rest lost)
    (behind ∙ shown.shows.back ∙ ap (λ (es : List Entry). flat_map told_of es) (sym same)))

data-of : (e : Entry) (b : Body) (time : Option ℕ) (payload : List ℕ) (place : ℕ) → b ≡ body.Samples time payload → e.tag ≡ Sample place →
    flight_by e.tag e.packet b ≡ Data place (load_of e.packet) ∷ []
data-of e b time payload place is tag = rw (is, tag) refl

command-of : (e : Entry) (b : Body) (c : Command) (counts : Count) → b ≡ body.Command c → e.tag ≡ Order counts → flight_by e.tag e.packet b ≡ Ordered c.op counts ∷ []
command-of e b c counts is tag = rw (is, tag) refl

core-packet : (plan : StreamPlan) (closed : Bool) (st : Stream) (e : Entry) (place : ℕ) → e.tag ≡ Sample place →
    loses_packet place (core_of plan closed st) ≡ core_of plan closed (loses e st)
core-packet plan closed st e place tag = rw tag refl

core-command : (plan : StreamPlan) (closed : Bool) (st : Stream) (e : Entry) (counts : Count) → e.tag ≡ Order counts →
    loses_message (core_of plan closed st) ≡ core_of plan closed (loses e st)
core-command plan closed st e counts tag = rw tag refl

core-status : (plan : StreamPlan) (closed : Bool) (st : Stream) (e : Entry) (told : Told) → e.tag ≡ Report told →
    loses_message (core_of plan closed st) ≡ core_of plan closed (loses e st)
core-status plan closed st e told tag = rw tag refl

pub samples_lost : SamplesLost
samples_lost w s q closed st e rest time payload place shown at is tag =
    let plan = plan_at w.plan s in
    let lost = lost-ahead w s q closed st e rest shown at (subst GoesAhead (sym is) tt) in
    let act = LosePacket (flat_map flight_of lost.ahead.before) place (load_of e.packet) (flat_map flight_of lost.ahead.behind) in
    record {
      act = act;
      allowed = split-ahead w s q closed st e rest (Data place (load_of e.packet)) shown.shows lost (data-of e e.packet.body time payload place is tag);
      shows = shows-lost w s q closed st (act_after (terms_of plan) st act) e rest shown lost
          (ap (loses_packet place) shown.shows.core ∙ core-packet plan closed (stream_at w s) e place tag) refl refl;
    }

pub commands_lost : CommandsLost
commands_lost w s q closed st e rest c counts shown at is tag =
    let plan = plan_at w.plan s in
    let lost = lost-ahead w s q closed st e rest shown at (subst GoesAhead (sym is) tt) in
    let act = LoseCommand (flat_map flight_of lost.ahead.before) c.op counts (flat_map flight_of lost.ahead.behind) in
    record {
      act = act;
      allowed = split-ahead w s q closed st e rest (Ordered c.op counts) shown.shows lost (command-of e e.packet.body c counts is tag);
      shows = shows-lost w s q closed st (act_after (terms_of plan) st act) e rest shown lost
          (ap loses_message shown.shows.core ∙ core-command plan closed (stream_at w s) e counts tag) refl refl;
    }

-- ---- on the way back

pub statuses_lost : StatusesLost
statuses_lost w s q closed st e rest status told shown at is tag =
    let plan = plan_at w.plan s in
    let lost : LostBack w s q e rest =
    loses_back w s q at.before at.behind e rest shown.queues at.back at.mine at.front at.way (subst GoesBack (sym is) tt) at.dst in
    let told_is : told_of e ≡ told ∷ [] = rw tag refl in
    let act = LoseStatus (flat_map told_of lost.back.before) told (flat_map told_of lost.back.behind) in
    let split : st.back ≡ flat_map told_of lost.back.before ++ told ∷ flat_map told_of lost.back.behind =
    shown.shows.back
    ∙ ap (λ (es : List Entry). flat_map told_of es) lost.back.with_it
    ∙ flat_map-append told_of lost.back.before (e ∷ lost.back.behind)
    ∙ ap (λ (f : List Told). flat_map told_of lost.back.before ++ (f ++ flat_map told_of lost.back.behind)) told_is in
    let left : flat_map told_of lost.back.before ++ flat_map told_of lost.back.behind ≡ flat_map told_of (back (leaves q rest w) s) =
    sym (flat_map-append told_of lost.back.before lost.back.behind)
    ∙ ap (λ (es : List Entry). flat_map told_of es) (sym lost.back.without ∙ ap (λ (v : State). back v s) lost.lost) in
    let same : ahead (leaves q rest w) s ≡ ahead w s = sym (ap (λ (v : State). ahead v s) lost.lost) ∙ lost.ahead in
    record {
      act = act;
      allowed = split;
      shows = subst (λ (v : State). Shows v s closed (act_after (terms_of plan) st act)) (sym lost.lost)
          (shown-by w (leaves q rest w) s closed (loses e) (act_after (terms_of plan) st act) refl refl shown.there
          (ap loses_message shown.shows.core ∙ core-status plan closed (stream_at w s) e told tag)
          (shown.shows.forward ∙ ap (λ (es : List Entry). flat_map flight_of es) (sym same)) left);
    }
