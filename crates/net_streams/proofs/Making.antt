-- What a block makes for a stream is an act of that stream.
use Rattle.std.proofs.Common.{◌≡◌, ℕ, ◌+◌, ◌≤◌, ◌%◌, ◌^◌, false, List, [], ◌∷◌, ◌++◌, length, refl, sym, ◌∙◌, ap, arith}
use Rattle.std.specs.List.{All, AllByRecursion}
use Rattle.std.proofs.lemmas.List.{map-append}
use Rattle.std.proofs.lemmas.List.Elements.{All-head, All-tail}
use Rattle.chdr_packets.specs.Length.{wire_of}
use Rattle.chdr_packets.specs.declared.packet.Packet.{Packet}
use Rattle.stream_laws.specs.Acts.{Fill, after as act_after}
use Rattle.stream_laws.specs.Effects.{fills_core}
use Rattle.stream_laws.specs.Machine.{Core, Load}
use Rattle.net_machine.specs.declared.plan.StreamPlan.{StreamPlan}
use Rattle.net_machine.specs.Plain.{numbered_from}
use Rattle.net_machine.specs.Plans.{plan_at}
use Rattle.net_machine.specs.State.{Stream, stream_at}
use Rattle.net_machine.specs.Streams.{numbered, readies}
use Rattle.net_streams.specs.Making.{MakingActs}
use Rattle.net_streams.specs.Shows.{core_of, load_of, loads_of, terms_of}
use Rattle.net_streams.proofs.Showing.{shown-by}

-- numbers go on behind the first packets
numbers-go_on : (plan : StreamPlan) (place : ℕ) (ps more : List Packet) →
    numbered_from plan place (ps ++ more) ≡ numbered_from plan place ps ++ numbered_from plan (place + length ps) more
numbers-go_on plan place [] more = let same : place ≡ place + 0 = omega arith in ap (λ (k : ℕ). numbered_from plan k more) same
numbers-go_on plan place (p ∷ ps) more =
    let same : place + 1 + length ps ≡ place + length (p ∷ ps) = omega arith in
    ap (λ (rest : List Packet). numbered plan ((plan.start + place) % 2 ^ 16) p ∷ rest)
    (numbers-go_on plan (place + 1) ps more ∙ ap (λ (k : ℕ). numbered_from plan (place + 1) ps ++ numbered_from plan k more) same)

all-small : (plan : StreamPlan) (cap place : ℕ) (ps : List Packet) → All (λ p. wire_of p ≤ cap) ps →
    AllByRecursion (λ (load : Load Packet). load.wire ≤ cap) (loads_of (numbered_from plan place ps))
all-small plan cap place [] small = tt
all-small plan cap place (p ∷ ps) small =
    (All-head (λ (q : Packet). wire_of q ≤ cap) p ps small, all-small plan cap (place + 1) ps (All-tail (λ (q : Packet). wire_of q ≤ cap) p ps small))

-- what becomes ready, as it is numbered behind what is ready
abbrev made_of : StreamPlan → Stream → List Packet → List (Load Packet)
made_of plan st packets = loads_of (numbered_from plan (length st.sent + length st.ready) packets)

core-made : (plan : StreamPlan) (st : Stream) (packets : List Packet) →
    fills_core (made_of plan st packets) (core_of plan false st) ≡ core_of plan false (readies packets st)
core-made plan st packets =
    ap (λ (ready : List (Load Packet)). record (core_of plan false st) { ready = ready })
    (sym (ap (λ (ps : List Packet). loads_of ps) (numbers-go_on plan (length st.sent) st.ready packets)
    ∙ map-append load_of (numbered_from plan (length st.sent) st.ready) (numbered_from plan (length st.sent + length st.ready) packets)))

pub making_acts : MakingActs
making_acts w s st packets shown small =
    let plan = plan_at w.plan s in
    let old = stream_at w s in
    record {
      act = Fill (made_of plan old packets);
      allowed = (ap (λ (c : Core Packet). c.closed) shown.shows.core, all-small plan plan.flow.cap_bytes (length old.sent + length old.ready) packets small);
      shows = shown-by w w s false (readies packets) (act_after (terms_of plan) st (Fill (made_of plan old packets))) refl refl shown.there
          (ap (fills_core (made_of plan old packets)) shown.shows.core ∙ core-made plan old packets) shown.shows.forward shown.shows.back;
    }
