use Rattle.std.proofs.Common.{List, ◌∙◌, ap, length, subst, sym}
use mathlib.Core.List.{IsPrefix}
use Rattle.net_machine.specs.declared.event.Event.{Event}
use Rattle.stream_rounds.proofs.Going.{caught-goes, goes-longer, going-goes, tells-longer}
use Rattle.stream_rounds.proofs.Lists.{begins_chain}
use Rattle.stream_rounds.proofs.Plainly.{none-doable}
use Rattle.stream_rounds.proofs.Turning.{each-passes, still-caught}
use Rattle.stream_rounds.proofs.fabric.turn.Goals as goal

pub hear_all-requires : goal.hear_all-requires
hear_all-requires g c = record {
  opened = c.requires.0;
  banks = g.B.RegisterSlots.slots c.args.banks.now;
  outlets = c.args.outlets.now.items;
  going = c.requires.1;
}

pub hand_over_all-requires : goal.hand_over_all-requires
hand_over_all-requires g c =
    let opened = c.requires.0 in
    let before = g.B.RegisterSlots.slots c.args.banks.now in
    let heard = c.hear_all.ensures.going opened before c.args.outlets.now.items c.requires.1 in
    let looked = c.in_ok-look_all.ensures.going opened c.hear_all.new.intakes.items heard in
    record {
      opened = opened;
      banks = g.B.RegisterSlots.slots c.settle.new.banks;
      intakes = c.hear_all.new.intakes.items;
      going = going-goes opened c.look_all.new.net (g.B.RegisterSlots.slots c.look_all.new.banks) c.settle.new.net (g.B.RegisterSlots.slots c.settle.new.banks)
          c.hear_all.new.intakes.items c.look_all.new.outlets.items looked c.in_ok-settle.ensures.goes;
    }

pub returns-clause-going : goal.returns-clause-going
returns-clause-going g c = λ opened going.
    let before = g.B.RegisterSlots.slots c.args.banks.now in
    let heard = c.hear_all.ensures.going opened before c.args.outlets.now.items going in
    let looked = c.in_ok-look_all.ensures.going opened c.hear_all.new.intakes.items heard in
    c.in_ok-hand_over_all.ensures.going opened (g.B.RegisterSlots.slots c.settle.new.banks) c.hear_all.new.intakes.items
    (going-goes opened c.look_all.new.net (g.B.RegisterSlots.slots c.look_all.new.banks) c.settle.new.net (g.B.RegisterSlots.slots c.settle.new.banks)
    c.hear_all.new.intakes.items c.look_all.new.outlets.items looked c.in_ok-settle.ensures.goes)

pub returns-clause-passes : goal.returns-clause-passes
returns-clause-passes g c =
    let opened = c.requires.0 in
    let before = g.B.RegisterSlots.slots c.args.banks.now in
    let heard = c.hear_all.ensures.going opened before c.args.outlets.now.items c.requires.1 in
    let looked = c.in_ok-look_all.ensures.going opened c.hear_all.new.intakes.items heard in
    let caught = c.in_ok-look_all.ensures.caught opened c.hear_all.new.intakes.items heard in
    each-passes c.hand_over_all.new.net.present c.args.outlets.now.items c.look_all.new.outlets.items c.hand_over_all.new.outlets.items
    c.in_ok-look_all.ensures.looks c.in_ok-hand_over_all.ensures.hands c.in_ok-hand_over_all.ensures.none
    (still-caught c.settle.new.net.present c.hand_over_all.new.net.present c.look_all.new.outlets.items c.hand_over_all.new.outlets.items
    c.in_ok-hand_over_all.ensures.hands c.in_ok-hand_over_all.ensures.taken
    (caught-goes opened c.look_all.new.net (g.B.RegisterSlots.slots c.look_all.new.banks) c.settle.new.net (g.B.RegisterSlots.slots c.settle.new.banks)
    c.hear_all.new.intakes.items c.look_all.new.outlets.items looked caught c.in_ok-settle.ensures.goes))

pub returns-clause-settled : goal.returns-clause-settled
returns-clause-settled g c = c.in_ok-hand_over_all.ensures.settled ∙ none-doable c.settle.new.net.present c.in_ok-settle.ensures.none

pub returns-clause-tells : goal.returns-clause-tells
returns-clause-tells g c =
    let old = c.args.net.now.journal in
    let heard = c.hear_all.new.net.journal in
    let looked = c.look_all.new.net.journal in
    let settled = c.settle.new.net.journal in
    let new = c.hand_over_all.new.net.journal in
    rw c.longer.ensures (tells-longer old new (length c.journal-before.result.now) (ap (λ (es : List Event). length es) c.journal-before.ensures)
    (subst (λ (js : List Event). IsPrefix old js) (sym c.in_ok-hand_over_all.ensures.journal)
    (begins_chain old looked settled
    (subst (λ (js : List Event). IsPrefix js looked) c.hear_all.ensures.journal c.in_ok-look_all.ensures.journal)
    (goes-longer c.look_all.new.net (g.B.RegisterSlots.slots c.look_all.new.banks) c.settle.new.net (g.B.RegisterSlots.slots c.settle.new.banks) c.in_ok-settle.ensures.goes))))
