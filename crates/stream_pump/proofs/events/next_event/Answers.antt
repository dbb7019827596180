use Rattle.std.proofs.Common.{◌≡◌, ◌<◌, ◌++◌, ℕ, List, [], length, arith, sym, ap, subst, ◌∙◌}
use Rattle.std.specs.Prelude.{IsTrue, Option, Some}
use Rattle.std.proofs.lemmas.List.{get_or_read}
use Rattle.std.proofs.Math.ListN.{length-set}
use Rattle.chdr_packets.specs.declared.packet.Packet.{Packet}
use Rattle.net_machine.specs.declared.event.Event.TheVariants.{Seen}
use Rattle.fabric_events.specs.Choosing.{doable_now}
use Rattle.stream_pump.specs.Drains.{HandsNext, drain_at, waiting_at}
use Rattle.stream_pump.specs.Running.{IsNext}
use Rattle.stream_pump.proofs.Nexts.{IsFirst, doable-taking, next-chosen, next-taking}
use Rattle.stream_pump.proofs.Waiting.{first-there}
use Rattle.stream_pump.proofs.events.next_event.Goals as goal

pub index-requires : goal.index-requires
index-requires c =
    let p = c.args.net.now.present in
    let q = c.take_next.new.net.present in
    let s = c.in-Some.s in
    let old = c.args.drains.now.items in
    let new = c.take_next.new.drains.items in
    let hands = subst (λ (o : Option ℕ). HandsNext o p q old new) c.in-Some.is c.in_ok-s.ensures.hands in
    let there = first-there s p q old new hands in
    let many = c.requires.plan.streams in
    let had = c.requires.drains in
    let before = c.args.drains.now.ok.0 in
    let after = c.take_next.new.drains.ok.0 in
    let same = ap (λ (ds : List (List Packet)). length ds) hands.drains in
    let size = length-set old s (drain_at old s ++ waiting_at p s) in
    omega (arith, there, many, had, before, after, same, size)

pub returns-in-Some-clause-next : goal.returns-in-Some-clause-next
returns-in-Some-clause-next c = λ w stands taken.
    let p = c.args.net.now.present in
    let q = c.take_next.new.net.present in
    let s = c.in-Some.s in
    let old = c.args.drains.now.items in
    let new = c.take_next.new.drains.items in
    let hands = subst (λ (o : Option ℕ). HandsNext o p q old new) c.in-Some.is c.in_ok-s.ensures.hands in
    let there = first-there s p q old new hands in
    let many = c.requires.plan.streams in
    let had = c.requires.drains in
    let before = c.args.drains.now.ok.0 in
    let lt : s < length old = omega (arith, there, many, had, before) in
    let same = ap (λ (ds : List (List Packet)). length ds) hands.drains in
    let size = length-set old s (drain_at old s ++ waiting_at p s) in
    let within : s < length new = omega (arith, lt, same, size) in
    let at : c.index.result.now ≡ drain_at new s = get_or_read new s c.index.result.now within c.index.ensures [] in
    let len : c.len.result ≡ length (drain_at new s) = c.len.ensures ∙ ap (λ (ps : List Packet). length ps) at in
    let first : IsFirst s p q w old new = record { before = stands; after = c.in_ok-s.ensures.machine w stands; taken = taken; hands = hands; there = lt } in
    subst (λ (n : ℕ). IsNext c.args.seed.now.0 w (Some (Seen s n)) c.args.seed.now.0 q new) (sym len)
    (next-taking c.args.seed.now.0 s p q w old new first)

pub returns-in-Some-clause-doable : goal.returns-in-Some-clause-doable
returns-in-Some-clause-doable c =
    let p = c.args.net.now.present in
    let q = c.take_next.new.net.present in
    let s = c.in-Some.s in
    let old = c.args.drains.now.items in
    let new = c.take_next.new.drains.items in
    let hands = subst (λ (o : Option ℕ). HandsNext o p q old new) c.in-Some.is c.in_ok-s.ensures.hands in
    let there = first-there s p q old new hands in
    let many = c.requires.plan.streams in
    let had = c.requires.drains in
    let before = c.args.drains.now.ok.0 in
    let lt : s < length old = omega (arith, there, many, had, before) in
    let same = ap (λ (ds : List (List Packet)). length ds) hands.drains in
    let size = length-set old s (drain_at old s ++ waiting_at p s) in
    let within : s < length new = omega (arith, lt, same, size) in
    let at : c.index.result.now ≡ drain_at new s = get_or_read new s c.index.result.now within c.index.ensures [] in
    let len : c.len.result ≡ length (drain_at new s) = c.len.ensures ∙ ap (λ (ps : List Packet). length ps) at in
    let w = c.requires.state.0 in
    let stands = c.requires.state.1.0 in
    let first : IsFirst s p q w old new = record { before = stands; after = c.in_ok-s.ensures.machine w stands; taken = c.requires.state.1.1; hands = hands; there = lt } in
    subst (λ (n : ℕ). IsTrue (doable_now q (Seen s n))) (sym len) (doable-taking s p q w old new first)

pub returns-in_ok-supply-in-None-clause-next : goal.returns-in_ok-supply-in-None-clause-next
returns-in_ok-supply-in-None-clause-next c = λ w stands taken.
    let p = c.args.net.now.present in
    let q = c.take_next.new.net.present in
    let old = c.args.drains.now.items in
    let new = c.take_next.new.drains.items in
    let hands = subst (λ (o : Option ℕ). HandsNext o p q old new) c.in-None.is c.in_ok-s.ensures.hands in
    let then = c.in_ok-supply-in-None.ensures.machine w (c.in_ok-s.ensures.machine w stands) in
    let choice = c.choose.ensures.machine w then c.in_ok-supply-in-None.ensures.supplied in
    next-chosen c.args.seed.now.0 p q c.supply.new.net.present w old new c.choose.result c.choose.new.seed.0 (record {
      before = stands;
      after = then;
      taken = taken;
      hands = hands;
      offers = c.in_ok-supply-in-None.ensures.offers;
      event = choice.0;
      seeds = choice.1;
    })
