use Rattle.std.proofs.Common.{sym}
use Rattle.block_registers.proofs.RegisterLemmas.{written_one_fixed}
use Rattle.block_registers.proofs.fixed.FixedWordsRegisterBank.write.Goals as goal

pub returns-clause-words : goal.returns-clause-words
returns-clause-words c = sym (written_one_fixed c.args.self.now.words.now _ c.args.self.now.small)
