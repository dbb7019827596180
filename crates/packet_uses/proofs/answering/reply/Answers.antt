-- The acknowledgement of a request that fits has a spelling.
use Rattle.std.proofs.Common.{lit<}
use Rattle.packet_uses.proofs.AnswerLemmas.{sent_fits}
use Rattle.packet_uses.proofs.answering.reply.Goals as goal

pub encode-requires : goal.encode-requires
encode-requires g c = sent_fits _ _ c.args.me _ c.args.request.now c.operate.result c.new.result (lit< tt) c.requires c.new.ensures c.operate.ensures.answer
