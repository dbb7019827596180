-- The packet that `decode` found is spelled by `encode`, and read back from that.
use Rattle.packet_uses.proofs.RespellLemmas.{respelled}
use Rattle.packet_uses.proofs.respelling.respell.Goals as goal

pub returns-in_ok-encode-in-Ok-Some : goal.returns-in_ok-encode-in-Ok-Some
returns-in_ok-encode-in-Ok-Some c =
    let within = rw c.in-Ok-Some.field-0-is at c.in-Ok-Some.ensures.within in
    let spells = rw c.in-Ok-Some.field-0-is at c.in-Ok-Some.ensures.spells in
    respelled c.args.bytes.now c.in_ok-encode-in-Ok-Some.field-0 c.in-Ok-Some.packet c.in-Ok-Some.field-0-0-1 within.0 spells c.in_ok-encode-in-Ok-Some.ensures.canonical
