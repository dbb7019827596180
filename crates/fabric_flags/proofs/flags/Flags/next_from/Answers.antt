use Rattle.fabric_flags.proofs.FlagLemmas.{match-read}
use Rattle.fabric_flags.proofs.flags.Flags.next_from.Goals as goal

pub returns : goal.returns
returns c = rw (← c.self.view_is)
    (match-read c.self.inside.words.items c.self.inside.len c.self.invariant.past c.args.n c.next_on.result
    (rw c.as_slice.ensures.value at c.next_on.ensures))
