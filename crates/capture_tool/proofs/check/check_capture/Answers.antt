use Rattle.std.proofs.Common.{◌≡◌, ◌∙◌, List, ℕ, refl}
use Rattle.capture_tool.specs.Text.{check_text}
use Rattle.capture_tool.proofs.OutcomeLemmas.{check_unwritten, check_prefix, check_told}
use Rattle.capture_tool.proofs.check.check_capture.Goals as goal

pub returns-in-Err-Write-clause-prefix : goal.returns-in-Err-Write-clause-prefix
returns-in-Err-Write-clause-prefix g c = λ _. check_unwritten (g.S.Source.left c.args.src.now) (g.K.Sink.written c.args.out.now) (g.K.Sink.written c.read_pieces.new.out) (c.read_pieces.ensures.silent (λ more. refl))

pub returns-clause-prefix : goal.returns-clause-prefix
returns-clause-prefix g c = λ _.
    check_prefix (g.S.Source.left c.args.src.now) (g.K.Sink.written c.args.out.now) (g.K.Sink.written c.read_pieces.new.out) (g.K.Sink.written c.write_all.new.out) c.new.result c.in-Ok.seen c.as_bytes.result.now c.new.ensures (c.read_pieces.ensures.silent (λ more. refl)) c.in-Ok.ensures.told (c.as_bytes.ensures ∙ c.in-Ok-check_line.ensures)
    c.in-Err-write_all.ensures.prefix

pub returns-in-Ok-write_all-clause-told : goal.returns-in-Ok-write_all-clause-told
returns-in-Ok-write_all-clause-told g c = λ _.
    check_told (g.S.Source.left c.args.src.now) (g.K.Sink.written c.args.out.now) (g.K.Sink.written c.read_pieces.new.out) (g.K.Sink.written c.write_all.new.out) c.new.result c.in-Ok.seen c.as_bytes.result.now c.status_of.result c.new.ensures (c.read_pieces.ensures.silent (λ more. refl)) c.in-Ok.ensures.told
    (c.as_bytes.ensures ∙ c.in-Ok-check_line.ensures) c.in-Ok-write_all.ensures.whole c.status_of.ensures
