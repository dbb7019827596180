-- The packet that `decode` found is a request, or none.
use Rattle.packet_uses.proofs.AnswerLemmas.{requests}
use Rattle.packet_uses.proofs.answering.request_in.Goals as goal

pub returns-in-Ok-Some : goal.returns-in-Ok-Some
returns-in-Ok-Some c =
    let within = rw c.in-Ok-Some.field-0-is at c.in-Ok-Some.ensures.within in
    let spells = rw c.in-Ok-Some.field-0-is at c.in-Ok-Some.ensures.spells in
    let fits = rw c.in-Ok-Some.field-0-is at c.in-Ok-Some.ensures.fits in
    requests c.args.bytes.now c.in-Ok-Some.packet c.in-Ok-Some.field-0-0-1 c.request_of.result within.0 spells fits c.request_of.ensures
