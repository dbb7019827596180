use Rattle.std.proofs.Common.{◌≡◌, ◌<◌, length, get_or, arith, refl, sym, ap, subst, ◌∙◌}
use Rattle.std.proofs.lemmas.List.{get_or_read}
use Rattle.net_present.specs.Present.{Present, StreamNow}
use Rattle.stream_rounds.specs.Between.{IsFed}
use Rattle.stream_rounds.specs.Presents.{at, with_offered}
use Rattle.stream_rounds.specs.Sides.{IntakeSide}
use Rattle.stream_rounds.specs.Turns.{Hears}
use Rattle.stream_rounds.proofs.Going.{going-heard}
use Rattle.stream_rounds.proofs.Presents.{at-keeps}
use Rattle.stream_rounds.proofs.Turning.{hears-from, upto-all, upto-first, upto-more}
use Rattle.stream_rounds.proofs.fabric.hear_all.Goals as goal

pub loop-i-init : goal.loop-i-init
loop-i-init c = record {
  hears = upto-first (Hears c.args.net.now.present) c.args.intakes.now.items;
  journal = refl;
  sent = λ t. refl;
  going = λ opened banks outlets going. going;
}

pub work-requires : goal.work-requires
work-requires c =
    let start = c.requires in
    let going = c.loop-i.invariant.going start.opened start.banks start.outlets start.going in
    let xs = c.loop-i.intakes.items in
    let x = c.index_mut.result.now in
    let there : c.loop-i.i < length xs = let lt = c.loop-i-test.true in let end = c.len-i-end.ensures in let many = c.loop-i.invariant.hears.count in omega (arith, lt, end, many, c.args.intakes.now.ok.0) in
    subst (λ (z : IntakeSide). IsFed c.loop-i.net.present z.stream z.rx) (sym (get_or_read xs c.loop-i.i x there c.index_mut.ensures.value x)) (going.fed c.loop-i.i x there)

pub loop-i-preserved : goal.loop-i-preserved
loop-i-preserved c =
    let p = c.args.net.now.present in
    let xs = c.loop-i.intakes.items in
    let i = c.loop-i.i in
    let x = c.index_mut.result.now in
    let y = c.work.new.self in
    let there : i < length xs = let lt = c.loop-i-test.true in let end = c.len-i-end.ensures in let many = c.loop-i.invariant.hears.count in omega (arith, lt, end, many, c.args.intakes.now.ok.0) in
    let at-i : (d : IntakeSide) → get_or xs i d ≡ x = λ d. sym (get_or_read xs i x there c.index_mut.ensures.value d) in
    record {
      hears = upto-more (Hears p) i c.args.intakes.now.items xs x y c.loop-i.invariant.hears there at-i
          (hears-from p c.loop-i.net.present x y c.loop-i.invariant.sent c.work.ensures.hears);
      journal = c.work.ensures.journal ∙ c.loop-i.invariant.journal;
      sent = λ t. ap (λ (q : Present). (at q t).sent) c.work.ensures.present
          ∙ at-keeps (λ (st : StreamNow). st.sent) c.loop-i.net.present x.stream (with_offered (at c.work.new.net.present x.stream).offered) (λ st. refl) t
          ∙ c.loop-i.invariant.sent t;
      going = λ opened banks outlets going.
          going-heard opened c.loop-i.net c.work.new.net banks xs outlets i (at c.work.new.net.present x.stream).offered x y
          (c.loop-i.invariant.going opened banks outlets going) there at-i c.work.ensures.hears.stream c.work.ensures.present c.work.ensures.fed
          c.work.ensures.machine c.work.ensures.journal;
    }

pub returns-clause-hears : goal.returns-clause-hears
returns-clause-hears c =
    upto-all (Hears c.args.net.now.present) c.loop-i.i c.args.intakes.now.items c.loop-i.intakes.items c.loop-i.invariant.hears
    (let low = c.loop-i-test.false in let end = c.len-i-end.ensures in omega (arith, low, end, c.args.intakes.now.ok.0))
