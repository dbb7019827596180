use Rattle.std.proofs.Common.{◌≡◌, ◌<◌, length, get_or, arith, refl, sym}
use Rattle.std.proofs.lemmas.List.{get_or_read}
use Rattle.net_machine.specs.declared.event.Event.TheVariants.{Seen}
use Rattle.fabric_events.specs.Choosing.{doable_now}
use Rattle.stream_rounds.specs.Sides.{OutletSide}
use Rattle.stream_rounds.specs.Turns.{Looks}
use Rattle.stream_rounds.proofs.Going.{caught-more, going-looked, sees-longer}
use Rattle.stream_rounds.proofs.Lists.{begins_chain, begins_itself}
use Rattle.stream_rounds.proofs.Turning.{upto-all, upto-first, upto-more}
use Rattle.stream_rounds.proofs.fabric.look_all.Goals as goal

pub loop-i-init : goal.loop-i-init
loop-i-init g c = record {
  looks = upto-first Looks c.args.outlets.now.items;
  journal = begins_itself c.args.net.now.journal;
  going = λ opened intakes going. going;
  caught = λ opened intakes going j d lt there. absurd (omega (arith, lt));
}

pub loop-i-preserved : goal.loop-i-preserved
loop-i-preserved g c =
    let ys = c.loop-i.outlets.items in
    let i = c.loop-i.i in
    let x = c.index_mut.result.now in
    let y = c.look.new.self in
    let old = c.loop-i.net in
    let new = c.look.new.net in
    let before = g.B.RegisterSlots.slots c.loop-i.banks in
    let after = g.B.RegisterSlots.slots c.look.new.banks in
    let there : i < length ys = let lt = c.loop-i-test.true in let end = c.len-i-end.ensures in let many = c.loop-i.invariant.looks.count in omega (arith, lt, end, many, c.args.outlets.now.ok.0) in
    let at-i : (d : OutletSide) → get_or ys i d ≡ x = λ d. sym (get_or_read ys i x there c.index_mut.ensures.value d) in
    let looked : Looks x y = record {
      stream = c.look.ensures.stream;
      lane = c.look.ensures.lane;
      put = c.look.ensures.put;
      rises = c.look.ensures.rises.0;
      sound = c.look.ensures.rises.1;
    } in
    let sees = c.in_ok-look.ensures.sees in
    let can = doable_now old.present (Seen x.stream y.tx.taken) in
    record {
      looks = upto-more Looks i c.args.outlets.now.items ys x y c.loop-i.invariant.looks there at-i looked;
      journal = begins_chain c.args.net.now.journal old.journal new.journal c.loop-i.invariant.journal (sees-longer x.stream y.tx.taken old new before after can sees);
      going = λ opened intakes start.
          going-looked opened old new before after intakes ys i x y (c.loop-i.invariant.going opened intakes start) there at-i looked can refl sees;
      caught = λ opened intakes start j d lt within.
          caught-more opened old new before after intakes ys i x y (c.loop-i.invariant.going opened intakes start) there at-i looked can refl sees
          (c.loop-i.invariant.caught opened intakes start) j d lt within;
    }

pub returns-clause-looks : goal.returns-clause-looks
returns-clause-looks g c =
    upto-all Looks c.loop-i.i c.args.outlets.now.items c.loop-i.outlets.items c.loop-i.invariant.looks
    (let low = c.loop-i-test.false in let end = c.len-i-end.ensures in omega (arith, low, end, c.args.outlets.now.ok.0))

pub returns-clause-caught : goal.returns-clause-caught
returns-clause-caught g c = λ opened intakes start j d lt.
    let low = c.loop-i-test.false in
    let end = c.len-i-end.ensures in
    let many = c.loop-i.invariant.looks.count in
    c.loop-i.invariant.caught opened intakes start j d (omega (arith, lt, low, end, many, c.args.outlets.now.ok.0)) lt
