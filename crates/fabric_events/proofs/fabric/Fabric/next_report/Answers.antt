use Rattle.std.proofs.Common.{◌≡◌, arith}
use Rattle.fabric_events.specs.Sizes.{first_report}
use Rattle.fabric_events.proofs.EarlyLemmas.{report_next, reports_past}
use Rattle.fabric_events.proofs.fabric.Fabric.next_report.Goals as goal

pub returns-in-Some-clause-still : goal.returns-in-Some-clause-still
returns-in-Some-clause-still c =
    let first = c.requires.from in
    let at : c.reports-reports.result ≡ first_report c.args.sizes = c.reports-reports.ensures in
    report_next c.args.self.now c.args.sizes c.requires.sound c.requires.sizes c.reports-reports.result c.args.k c.in-Some.s at (omega arith) c.in-Some.ensures

pub returns-in-None-clause-still : goal.returns-in-None-clause-still
returns-in-None-clause-still c =
    let first = c.requires.from in
    let at : c.reports-reports.result ≡ first_report c.args.sizes = c.reports-reports.ensures in
    reports_past c.args.self.now c.args.sizes c.requires.sound c.requires.sizes c.reports-reports.result c.args.k at (omega arith) c.in-None.ensures
