use Rattle.std.proofs.Common.{refl}
use Rattle.rfnoc_cli.proofs.OutcomeLemmas.{check_outcome}
use Rattle.rfnoc_cli.proofs.top.rfnoc.Goals as goal

pub returns-in-Some-Check-clause-outcome : goal.returns-in-Some-Check-clause-outcome
returns-in-Some-Check-clause-outcome g c =
    let call = c.check_capture.ensures in
    rw (← c.form_of_words.ensures.form, c.in-Some-Check.is, c.in-Some-Check.field-0-is) (
      check_outcome (g.S.Source.left c.args.src.now) (g.K.Sink.written c.args.out.now) (g.K.Sink.written c.check_capture.new.out) c.check_capture.result
          call.statuses call.told call.untouched call.prefix,
      record { empty = c.new.ensures; kept = refl },
    )
