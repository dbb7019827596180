-- Each record's text is put behind that of those before it.
use Rattle.std.proofs.Common.{◌≡◌, ◌∙◌, ap, Option, None, Ok, Err, refl}
use Rattle.pcap_input.specs.declared.item.PcapItem.{PcapItem}
use Rattle.pcap_input.specs.declared.item.PcapFault.TheVariants.{Bad}
use Rattle.pcap_input.specs.Reader.{answer_of}
use Rattle.capture_tool.proofs.PcapLemmas.{gives_item, payload_within, counted_one, lists_none, lists_one, lists_same, at_end, at_fault}
use Rattle.capture_tool.proofs.pcap.list_records.Goals as goal

pub loop-item-init : goal.loop-item-init
loop-item-init c = record { lists = lists_none c.args.reader.now c.args.totals.now c.args.page.now; within = c.requires; place = refl }

pub list_item-requires : goal.list_item-requires
list_item-requires c =
    let e : answer_of c.loop-item.reader ≡ gives_item c.in-Ok-Some.item = c.in-Ok-Some.ensures.answers.0 ∙ ap (λ (f : Option PcapItem). Ok f) c.in-Ok-Some.field-0-is in
    payload_within c.loop-item.reader c.next.new.self c.in-Ok-Some.item c.loop-item.totals e c.in-Ok-Some.ensures.answers.1 c.next.ensures.fed c.loop-item.invariant.within

pub returns-in-Ok-None-clause-lists : goal.returns-in-Ok-None-clause-lists
returns-in-Ok-None-clause-lists c =
    let a = rw c.in-Ok-None.field-0-is at c.in-Ok-None.ensures.answers in
    lists_same c.args.reader.now c.loop-item.reader c.next.new.self c.args.totals.now c.loop-item.totals c.args.page.now c.loop-item.page (Ok None) refl c.loop-item.invariant.lists a.0 a.1

pub returns-in-Ok-None-clause-at : goal.returns-in-Ok-None-clause-at
returns-in-Ok-None-clause-at c =
    let a = rw c.in-Ok-None.field-0-is at c.in-Ok-None.ensures.answers in
    at_end c.loop-item.reader c.next.new.self a.0 a.1

pub returns-in-Err-Bad-clause-lists : goal.returns-in-Err-Bad-clause-lists
returns-in-Err-Bad-clause-lists c =
    let a = rw c.in-Err-Bad.field-0-is at c.in-Err-Bad.ensures.answers in
    lists_same c.args.reader.now c.loop-item.reader c.next.new.self c.args.totals.now c.loop-item.totals c.args.page.now c.loop-item.page (Err (Bad c.in-Err-Bad.at c.in-Err-Bad.reason)) refl c.loop-item.invariant.lists a.0 a.1

pub returns-in-Err-Bad-clause-at : goal.returns-in-Err-Bad-clause-at
returns-in-Err-Bad-clause-at c =
    let a = rw c.in-Err-Bad.field-0-is at c.in-Err-Bad.ensures.answers in
    at_fault c.loop-item.reader c.next.new.self c.in-Err-Bad.at c.in-Err-Bad.reason c.pcap_fault_at.result c.pcap_fault_at.ensures a.0 a.1

pub loop-item-preserved : goal.loop-item-preserved
loop-item-preserved c =
    let e : answer_of c.loop-item.reader ≡ gives_item c.in-Ok-Some.item = c.in-Ok-Some.ensures.answers.0 ∙ ap (λ (f : Option PcapItem). Ok f) c.in-Ok-Some.field-0-is in
    record {
      lists = lists_one c.args.reader.now c.loop-item.reader c.next.new.self c.args.totals.now c.loop-item.totals c.in_ok-counts-in-Ok-Some.counts c.summed.result c.args.page.now c.loop-item.page c.list_item.new.page c.in-Ok-Some.item
          c.loop-item.invariant.lists e c.in-Ok-Some.ensures.answers.1 c.in_ok-counts-in-Ok-Some.ensures.counts c.summed.ensures c.in_ok-counts-in-Ok-Some.ensures.put;
      within = counted_one c.loop-item.reader c.next.new.self c.in-Ok-Some.item c.loop-item.totals c.in_ok-counts-in-Ok-Some.counts c.summed.result e c.in-Ok-Some.ensures.answers.1 c.next.ensures.fed c.in_ok-counts-in-Ok-Some.ensures.counts c.in_ok-counts-in-Ok-Some.ensures.few c.summed.ensures
          c.loop-item.invariant.within;
      place = c.next.ensures.fed ∙ c.loop-item.invariant.place;
    }
