use Rattle.std.proofs.Common.{◌≡◌, max, arith}
use Rattle.fabric_events.specs.Fabrics.{present_of}
use Rattle.fabric_events.specs.Sizes.{first_feed, first_order, first_reply, first_report}
use Rattle.fabric_events.proofs.EarlyLemmas.{enter_next, enters_past}
use Rattle.fabric_events.proofs.StillLemmas.{still_by_max, still_if}
use Rattle.fabric_events.proofs.fabric.Fabric.next_early.Goals as goal

pub returns-in-Some-clause-still : goal.returns-in-Some-clause-still
returns-in-Some-clause-still c = enter_next c.args.self.now c.args.sizes c.requires.sound c.requires.sizes c.args.k c.in-Some.s c.in-Some.ensures

pub returns-in-Some-next_order-clause-still : goal.returns-in-Some-next_order-clause-still
returns-in-Some-next_order-clause-still c =
    let k = c.args.k in
    let here = c.max.ensures in
    let order = c.orders.ensures in
    let at : c.max.result ≡ max k (first_order c.args.sizes) = omega arith in
    still_by_max (present_of c.args.self.now) c.args.sizes k (first_order c.args.sizes) c.max.result c.in-Some-next_order.place
    (enters_past c.args.self.now c.args.sizes c.requires.sound c.requires.sizes k c.in_default.ensures) at c.in-Some-next_order.ensures.still

pub returns-in-Some-next_report-clause-still : goal.returns-in-Some-next_report-clause-still
returns-in-Some-next_report-clause-still c =
    let p = present_of c.args.self.now in
    let s = c.args.sizes in
    let k = c.args.k in
    let here = c.max.ensures in
    let order = c.orders.ensures in
    let at : c.max.result ≡ max k (first_order s) = omega arith in
    let later = c.max-2.ensures in
    let report = c.reports.ensures in
    let then : c.max-2.result ≡ max k (first_report s) = omega arith in
    still_by_max p s k (first_report s) c.max-2.result c.in-Some-next_report.place
    (still_by_max p s k (first_order s) c.max.result (first_report s)
    (enters_past c.args.self.now s c.requires.sound c.requires.sizes k c.in_default.ensures) at c.in_default-next_order.ensures.still)
    then c.in-Some-next_report.ensures.still

pub returns-clause-still : goal.returns-clause-still
returns-clause-still c =
    let p = present_of c.args.self.now in
    let s = c.args.sizes in
    let k = c.args.k in
    let here = c.max.ensures in
    let order = c.orders.ensures in
    let at : c.max.result ≡ max k (first_order s) = omega arith in
    let later = c.max-2.ensures in
    let report = c.reports.ensures in
    let then : c.max-2.result ≡ max k (first_report s) = omega arith in
    let last = c.max-3.ensures in
    let feed = c.feeds.ensures in
    let behind : c.max-3.result ≡ max k (first_feed s) = omega arith in
    still_if p s k (first_feed s) c.max-3.result (first_reply s) c.next_feed.result
    (still_by_max p s k (first_report s) c.max-2.result (first_feed s)
    (still_by_max p s k (first_order s) c.max.result (first_report s)
    (enters_past c.args.self.now s c.requires.sound c.requires.sizes k c.in_default.ensures) at c.in_default-next_order.ensures.still)
    then c.in_default-next_report.ensures.still)
    behind c.next_feed.ensures.still
