use Rattle.std.proofs.Common.{sym}
use Rattle.fabric_flags.proofs.FlagLemmas.{length-flags}
use Rattle.fabric_flags.proofs.flags.Flags.len.Goals as goal

pub returns : goal.returns
returns c = rw (← c.self.view_is) (sym (length-flags c.self.inside.words.items c.self.inside.len))
