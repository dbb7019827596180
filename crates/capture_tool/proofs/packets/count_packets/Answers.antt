-- Each packet is counted with those before it.
use Rattle.std.proofs.Common.{◌≡◌, ◌∙◌, ap, sym, Option, None, Some, Ok, Err, refl}
use Rattle.chdr_stream.proofs.Laws.{pass_tells}
use Rattle.chdr_stream.specs.declared.placed.Passed.{Passed}
use Rattle.chdr_stream.specs.Calls.{answer_of}
use Rattle.chdr_stream.specs.Laws.{without_packet}
use Rattle.chdr_stream.specs.declared.placed.StreamFault.{StreamFault}
use Rattle.chdr_stream.specs.declared.placed.StreamFault.TheVariants.{Bad}
use Rattle.capture_tool.specs.Follows.{one_more}
use Rattle.capture_tool.proofs.FollowLemmas.{passed_gives, passed_none, passed_fault, within_one, within_counted, less_one, less, at_fault, counts_none, counts_one, counts_same}
use Rattle.capture_tool.proofs.packets.count_packets.Goals as goal

pub loop-passed-init : goal.loop-passed-init
loop-passed-init c = record { counts = counts_none c.args.decoder.now c.args.counts.now; within = c.requires.within; less = c.requires.less; place = refl }

pub loop-passed-smaller : goal.loop-passed-smaller
loop-passed-smaller c =
    let e : without_packet (answer_of c.loop-passed.decoder) ≡ Ok (Some c.in-Ok-Some.passed) = sym (pass_tells c.loop-passed.decoder) ∙ sym c.pass.ensures.answers ∙ c.in-Ok-Some.is ∙ ap (λ (f : Option Passed). Ok f) c.in-Ok-Some.field-0-is in
    let p = passed_gives (answer_of c.loop-passed.decoder) c.in-Ok-Some.passed e in
    less c.loop-passed.decoder c.pass.new.self p.item p.is c.pass.ensures.moves c.pass.ensures.fed

pub loop-passed-preserved : goal.loop-passed-preserved
loop-passed-preserved c =
    let e : without_packet (answer_of c.loop-passed.decoder) ≡ Ok (Some c.in-Ok-Some.passed) = sym (pass_tells c.loop-passed.decoder) ∙ sym c.pass.ensures.answers ∙ c.in-Ok-Some.is ∙ ap (λ (f : Option Passed). Ok f) c.in-Ok-Some.field-0-is in
    let p = passed_gives (answer_of c.loop-passed.decoder) c.in-Ok-Some.passed e in
    record {
      counts = counts_one c.args.decoder.now c.loop-passed.decoder c.pass.new.self c.args.counts.now c.loop-passed.counts c.one_more.result p.item c.loop-passed.invariant.counts p.is c.pass.ensures.moves
          (c.one_more.ensures ∙ ap (one_more c.loop-passed.counts) (sym p.canonical));
      within = within_counted c.pass.new.self c.loop-passed.counts c.one_more.result c.in-Ok-Some.passed.canonical c.one_more.ensures
          (within_one c.loop-passed.decoder c.pass.new.self p.item c.loop-passed.counts.packets p.is c.pass.ensures.moves c.pass.ensures.fed c.loop-passed.invariant.within);
      less = less_one c.loop-passed.counts c.one_more.result c.in-Ok-Some.passed.canonical c.one_more.ensures c.loop-passed.invariant.less;
      place = c.pass.ensures.fed ∙ c.loop-passed.invariant.place;
    }

pub returns-in-Err-Bad-clause-counts : goal.returns-in-Err-Bad-clause-counts
returns-in-Err-Bad-clause-counts c =
    let e : without_packet (answer_of c.loop-passed.decoder) ≡ Err (Bad c.in-Err-Bad.at c.in-Err-Bad.fault) = sym (pass_tells c.loop-passed.decoder) ∙ sym c.pass.ensures.answers ∙ c.in-Err-Bad.is ∙ ap (λ (f : StreamFault). Err f) c.in-Err-Bad.field-0-is in
    counts_same c.args.decoder.now c.loop-passed.decoder c.pass.new.self c.args.counts.now c.loop-passed.counts (Err (Bad c.in-Err-Bad.at c.in-Err-Bad.fault)) refl c.loop-passed.invariant.counts
    (passed_fault (answer_of c.loop-passed.decoder) (Bad c.in-Err-Bad.at c.in-Err-Bad.fault) e) c.pass.ensures.moves

pub returns-in-Err-Bad-clause-at : goal.returns-in-Err-Bad-clause-at
returns-in-Err-Bad-clause-at c =
    let e : without_packet (answer_of c.loop-passed.decoder) ≡ Err (Bad c.in-Err-Bad.at c.in-Err-Bad.fault) = sym (pass_tells c.loop-passed.decoder) ∙ sym c.pass.ensures.answers ∙ c.in-Err-Bad.is ∙ ap (λ (f : StreamFault). Err f) c.in-Err-Bad.field-0-is in
    at_fault c.loop-passed.decoder c.pass.new.self c.in-Err-Bad.at c.in-Err-Bad.fault c.fault_at.result c.fault_at.ensures
    (passed_fault (answer_of c.loop-passed.decoder) (Bad c.in-Err-Bad.at c.in-Err-Bad.fault) e) c.pass.ensures.moves

pub returns-in-Ok-None-clause-counts : goal.returns-in-Ok-None-clause-counts
returns-in-Ok-None-clause-counts c =
    let e : without_packet (answer_of c.loop-passed.decoder) ≡ Ok None = sym (pass_tells c.loop-passed.decoder) ∙ sym c.pass.ensures.answers ∙ c.in-Ok-None.is ∙ ap (λ (f : Option Passed). Ok f) c.in-Ok-None.field-0-is in
    counts_same c.args.decoder.now c.loop-passed.decoder c.pass.new.self c.args.counts.now c.loop-passed.counts (Ok None) refl c.loop-passed.invariant.counts
    (passed_none (answer_of c.loop-passed.decoder) e) c.pass.ensures.moves
