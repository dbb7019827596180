use Rattle.std.proofs.Common.{◌≡◌, ◌<◌, List, [], length, get_or, arith, refl, sym, ap, subst, ◌∙◌}
use Rattle.std.proofs.lemmas.List.{get_or_read}
use mathlib.Core.List.{IsPrefix}
use Rattle.chdr_packets.specs.declared.packet.Packet.{Packet}
use Rattle.net_machine.specs.Moves.{after_journal}
use Rattle.net_present.specs.Present.{Present, StreamNow}
use Rattle.fabric_events.specs.Choosing.{doable_list}
use Rattle.stream_rounds.specs.Presents.{at, with_waiting}
use Rattle.stream_rounds.specs.Sides.{OutletSide}
use Rattle.stream_rounds.specs.Turns.{Hands}
use Rattle.stream_rounds.proofs.Draining.{drained-room}
use Rattle.stream_rounds.proofs.Going.{drained-at, going-handed, none-more}
use Rattle.stream_rounds.proofs.Lists.{begins_grown}
use Rattle.stream_rounds.proofs.Plainly.{doable-handing}
use Rattle.stream_rounds.proofs.Presents.{at-keeps}
use Rattle.stream_rounds.proofs.Turning.{upto-all, upto-first, upto-more}
use Rattle.stream_rounds.proofs.fabric.hand_over_all.Goals as goal

pub loop-i-init : goal.loop-i-init
loop-i-init c = record {
  hands = upto-first Hands c.args.outlets.now.items;
  journal = refl;
  none = λ j d lt within. absurd (omega (arith, lt));
  going = λ opened banks intakes going. going;
  taken = λ s. refl;
  settled = refl;
}

pub hand_over-requires : goal.hand_over-requires
hand_over-requires c =
    let start = c.requires in
    let going = c.loop-i.invariant.going start.opened start.banks start.intakes start.going in
    let ys = c.loop-i.outlets.items in
    let x = c.index_mut.result.now in
    let there : c.loop-i.i < length ys = let lt = c.loop-i-test.true in let end = c.len-i-end.ensures in let many = c.loop-i.invariant.hands.count in omega (arith, lt, end, many, c.args.outlets.now.ok.0) in
    let drained = drained-at c.loop-i.net.present (after_journal start.opened c.loop-i.net.journal) ys c.loop-i.i x there (get_or_read ys c.loop-i.i x there c.index_mut.ensures.value x) going.drained in
    record {
      there = drained.there;
      rx = drained.rx;
      plan = drained.plan;
      room = drained-room c.loop-i.net.present (after_journal start.opened c.loop-i.net.journal) x.stream x.tx going.stands drained;
    }

pub loop-i-preserved : goal.loop-i-preserved
loop-i-preserved c =
    let start = c.requires in
    let ys = c.loop-i.outlets.items in
    let i = c.loop-i.i in
    let x = c.index_mut.result.now in
    let y = c.hand_over.new.self in
    let old = c.loop-i.net in
    let new = c.hand_over.new.net in
    let there : i < length ys = let lt = c.loop-i-test.true in let end = c.len-i-end.ensures in let many = c.loop-i.invariant.hands.count in omega (arith, lt, end, many, c.args.outlets.now.ok.0) in
    let at-i : (d : OutletSide) → get_or ys i d ≡ x = λ d. sym (get_or_read ys i x there c.index_mut.ensures.value d) in
    let lane = c.hand_over.ensures.lane in
    let done = c.in_ok-hand_over.ensures in
    let goes = c.loop-i.invariant.going start.opened start.banks start.intakes start.going in
    record {
      hands = upto-more Hands i c.args.outlets.now.items ys x y c.loop-i.invariant.hands there at-i (record {
        stream = c.hand_over.ensures.stream;
        lane = lane.0;
        taken = lane.1;
        longer = subst (λ (ps : List Packet). IsPrefix x.tx.put ps) (sym done.put) (begins_grown x.tx.put (at old.present x.stream).waiting);
        tells = done.tells;
      });
      journal = c.hand_over.ensures.journal ∙ c.loop-i.invariant.journal;
      none = none-more start.opened old new start.banks start.intakes ys i x y goes there at-i c.hand_over.ensures.stream done.present c.loop-i.invariant.none;
      going = λ opened banks intakes going.
          going-handed opened old new banks intakes ys i x y (c.loop-i.invariant.going opened banks intakes going) there at-i c.hand_over.ensures.stream lane.0 lane.1
          done.put done.present c.hand_over.ensures.machine c.hand_over.ensures.journal;
      taken = λ s. ap (λ (q : Present). (at q s).taken) done.present
          ∙ at-keeps (λ (st : StreamNow). st.taken) old.present x.stream (with_waiting []) (λ st. refl) s
          ∙ c.loop-i.invariant.taken s;
      settled = ap doable_list done.present ∙ doable-handing old.present x.stream [] ∙ c.loop-i.invariant.settled;
    }

pub returns-clause-hands : goal.returns-clause-hands
returns-clause-hands c =
    upto-all Hands c.loop-i.i c.args.outlets.now.items c.loop-i.outlets.items c.loop-i.invariant.hands
    (let low = c.loop-i-test.false in let end = c.len-i-end.ensures in omega (arith, low, end, c.args.outlets.now.ok.0))

pub returns-clause-none : goal.returns-clause-none
returns-clause-none c = λ j d lt.
    let low = c.loop-i-test.false in
    let end = c.len-i-end.ensures in
    let many = c.loop-i.invariant.hands.count in
    c.loop-i.invariant.none j d (omega (arith, lt, low, end, many, c.args.outlets.now.ok.0)) lt
