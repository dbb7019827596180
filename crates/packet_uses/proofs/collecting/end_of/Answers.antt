-- A decoder whose packets were taken shows what it refuses at its end.
use Rattle.std.proofs.Common.{◌≡◌, ◌∙◌, ap, sym, Err}
use Rattle.chdr_stream.specs.Stream.{finish_at}
use Rattle.chdr_stream.specs.declared.placed.FinishFault.{FinishFault}
use Rattle.chdr_stream.specs.declared.placed.FinishFault.TheVariants.{Truncated}
use Rattle.packet_uses.proofs.CollectLemmas.{cut_at, truncated_at, whole}
use Rattle.packet_uses.proofs.collecting.end_of.Goals as goal

pub returns-in-Ok : goal.returns-in-Ok
returns-in-Ok c = whole c.args.decoder.now c.in-Ok.field-0 c.requires (sym c.finish.ensures ∙ c.in-Ok.is)

pub returns-in-Err-Truncated : goal.returns-in-Err-Truncated
returns-in-Err-Truncated c =
    let t = truncated_at c.in-Err-Truncated.field-0 in
    let e : finish_at c.args.decoder.now ≡ Err (Truncated t.0) = sym c.finish.ensures ∙ c.in-Err-Truncated.is ∙ ap (λ (f : FinishFault). Err f) t.1 in
    rw t.1 (cut_at c.args.decoder.now t.0 c.requires e)
