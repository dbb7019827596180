-- Each packet is taken behind those before it.
use Rattle.std.proofs.Common.{◌≡◌, ◌∙◌, ap, Option, Ok, refl}
use Rattle.chdr_stream.specs.Calls.{answer_of}
use Rattle.chdr_stream.specs.declared.placed.Placed.{Placed}
use Rattle.packet_uses.proofs.CollectLemmas.{at_fault, gives, less, none_left, same_taken}
use Rattle.packet_uses.proofs.collecting.take_packets.Goals as goal

pub loop-placed-init : goal.loop-placed-init
loop-placed-init c = record { same = λ more. refl; place = refl }

pub loop-placed-smaller : goal.loop-placed-smaller
loop-placed-smaller c =
    let e : answer_of c.loop-placed.decoder ≡ gives c.in-Ok-Some.placed = c.in-Ok-Some.ensures.answers.0 ∙ ap (λ (f : Option Placed). Ok f) c.in-Ok-Some.field-0-is in
    less c.loop-placed.decoder c.next.new.self c.in-Ok-Some.placed e c.in-Ok-Some.ensures.answers.1 c.next.ensures.fed

pub loop-placed-preserved : goal.loop-placed-preserved
loop-placed-preserved c =
    let e : answer_of c.loop-placed.decoder ≡ gives c.in-Ok-Some.placed = c.in-Ok-Some.ensures.answers.0 ∙ ap (λ (f : Option Placed). Ok f) c.in-Ok-Some.field-0-is in
    record {
      same = same_taken c.args.decoder.now c.loop-placed.decoder c.next.new.self c.args.packets.now c.loop-placed.packets c.push.new.self c.in-Ok-Some.placed c.loop-placed.invariant.same e
          c.in-Ok-Some.ensures.answers.1 c.in_ok-push-in-Ok-Some.ensures.ok;
      place = c.next.ensures.fed ∙ c.loop-placed.invariant.place;
    }

pub returns-in-Ok-None-clause-takes : goal.returns-in-Ok-None-clause-takes
returns-in-Ok-None-clause-takes c =
    let a = rw c.in-Ok-None.field-0-is at c.in-Ok-None.ensures.answers in
    none_left c.args.decoder.now c.loop-placed.decoder c.next.new.self c.args.packets.now c.loop-placed.packets c.loop-placed.invariant.same a.0 a.1

pub returns-in-Err-Bad-clause-takes : goal.returns-in-Err-Bad-clause-takes
returns-in-Err-Bad-clause-takes c =
    let a = rw c.in-Err-Bad.field-0-is at c.in-Err-Bad.ensures.answers in
    at_fault c.args.decoder.now c.loop-placed.decoder c.args.packets.now c.loop-placed.packets c.in-Err-Bad.at c.in-Err-Bad.fault c.loop-placed.invariant.same a.0
