use Rattle.std.proofs.Common.{arith}
use Rattle.chdr_words.proofs.WordLemmas.{word_at-is}
use Rattle.chdr_words.proofs.bytes.word_at.Goals as goal

pub returns : goal.returns
returns c = omega (arith, word_at-is c.args.bytes.now c.args.at, c.from_le_bytes.ensures)
