-- Each packet's line is put behind those before it.
use Rattle.std.proofs.Common.{◌≡◌, ◌<◌, ◌∙◌, ap, Option, None, Ok, Err, refl, sym, subst, ℕ, arith}
use Rattle.chdr_stream.specs.declared.placed.Placed.{Placed}
use Rattle.chdr_stream.specs.declared.placed.StreamFault.TheVariants.{Bad}
use Rattle.chdr_stream.specs.Calls.{answer_of}
use Rattle.capture_tool.specs.Follows.{IsWithin, Lists}
use Rattle.capture_tool.proofs.FollowLemmas.{gives, few_ops, within_one, less, at_none, at_fault, lists_none, lists_one, lists_same, within_as, lists_as}
use Rattle.capture_tool.proofs.packets.list_packets.Goals as goal

pub loop-placed-init : goal.loop-placed-init
loop-placed-init c = record { lists = lists_none c.args.decoder.now c.args.packets.now c.args.page.now; within = c.requires; place = refl }

pub list_packet-requires-clause-ops : goal.list_packet-requires-clause-ops
list_packet-requires-clause-ops c = few_ops c.in-Ok-Some.placed.packet (rw c.in-Ok-Some.field-0-is at c.in-Ok-Some.ensures.fits)

pub list_packet-requires-clause-packets : goal.list_packet-requires-clause-packets
list_packet-requires-clause-packets c = omega (arith, c.loop-placed.invariant.within.each, c.loop-placed.invariant.within.bytes)

pub loop-placed-smaller : goal.loop-placed-smaller
loop-placed-smaller c =
    let e : answer_of c.loop-placed.decoder ≡ gives c.in-Ok-Some.placed = c.in-Ok-Some.ensures.answers.0 ∙ ap (λ (f : Option Placed). Ok f) c.in-Ok-Some.field-0-is in
    less c.loop-placed.decoder c.next.new.self c.in-Ok-Some.placed e c.in-Ok-Some.ensures.answers.1 c.next.ensures.fed

pub loop-placed-preserved : goal.loop-placed-preserved
loop-placed-preserved c =
    let e : answer_of c.loop-placed.decoder ≡ gives c.in-Ok-Some.placed = c.in-Ok-Some.ensures.answers.0 ∙ ap (λ (f : Option Placed). Ok f) c.in-Ok-Some.field-0-is in
    record {
      lists = lists_as c.args.decoder.now c.next.new.self c.args.packets.now c.list_packet.new.packets _ c.args.page.now c.list_packet.new.page c.list_packet.ensures.count
          (lists_one c.args.decoder.now c.loop-placed.decoder c.next.new.self c.args.packets.now c.loop-placed.packets c.args.page.now c.loop-placed.page c.list_packet.new.page c.in-Ok-Some.placed
          c.loop-placed.invariant.lists e c.in-Ok-Some.ensures.answers.1 c.in_ok-list_packet-in-Ok-Some.ensures.line);
      within = within_as c.next.new.self c.list_packet.new.packets _ c.list_packet.ensures.count
          (within_one c.loop-placed.decoder c.next.new.self c.in-Ok-Some.placed c.loop-placed.packets e c.in-Ok-Some.ensures.answers.1 c.next.ensures.fed c.loop-placed.invariant.within);
      place = c.next.ensures.fed ∙ c.loop-placed.invariant.place;
    }

pub returns-in-Ok-None-clause-lists : goal.returns-in-Ok-None-clause-lists
returns-in-Ok-None-clause-lists c =
    let a = rw c.in-Ok-None.field-0-is at c.in-Ok-None.ensures.answers in
    lists_same c.args.decoder.now c.loop-placed.decoder c.next.new.self c.args.packets.now c.loop-placed.packets c.args.page.now c.loop-placed.page (Ok None) refl c.loop-placed.invariant.lists a.0 a.1

pub returns-in-Ok-None-clause-at : goal.returns-in-Ok-None-clause-at
returns-in-Ok-None-clause-at c =
    let a = rw c.in-Ok-None.field-0-is at c.in-Ok-None.ensures.answers in
    at_none c.loop-placed.decoder c.next.new.self a.0 a.1

pub returns-in-Err-Bad-clause-lists : goal.returns-in-Err-Bad-clause-lists
returns-in-Err-Bad-clause-lists c =
    let a = rw c.in-Err-Bad.field-0-is at c.in-Err-Bad.ensures.answers in
    lists_same c.args.decoder.now c.loop-placed.decoder c.next.new.self c.args.packets.now c.loop-placed.packets c.args.page.now c.loop-placed.page (Err (Bad c.in-Err-Bad.at c.in-Err-Bad.fault)) refl c.loop-placed.invariant.lists
    a.0 a.1

pub returns-in-Err-Bad-clause-at : goal.returns-in-Err-Bad-clause-at
returns-in-Err-Bad-clause-at c =
    let a = rw c.in-Err-Bad.field-0-is at c.in-Err-Bad.ensures.answers in
    at_fault c.loop-placed.decoder c.next.new.self c.in-Err-Bad.at c.in-Err-Bad.fault c.fault_at.result c.fault_at.ensures a.0 a.1
