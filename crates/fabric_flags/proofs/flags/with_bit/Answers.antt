use Rattle.std.proofs.Common.{◌∙◌, sym, w64}
use Rattle.std.proofs.lemmas.Nat.Bits.{bit_at_clear_other, bit_at_clear_same, bit_at_set_other, bit_at_set_same}
use Rattle.fabric_flags.proofs.FlagLemmas.{off-from, on-from}
use Rattle.fabric_flags.proofs.flags.with_bit.Goals as goal

pub returns-then-on-clause-here : goal.returns-then-on-clause-here
returns-then-on-clause-here c = on-from _ (bit_at_set_same w64 c.args.word c.args.b c.requires) ∙ sym c.if-on.true

pub returns-then-on-clause-others : goal.returns-then-on-clause-others
returns-then-on-clause-others c = λ b low apart. bit_at_set_other w64 c.args.word c.args.b c.requires b apart

pub returns-else-on-clause-here : goal.returns-else-on-clause-here
returns-else-on-clause-here c = off-from _ (bit_at_clear_same w64 c.args.word c.args.b c.requires) ∙ sym c.if-on.false

pub returns-else-on-clause-others : goal.returns-else-on-clause-others
returns-else-on-clause-others c = λ b low apart. bit_at_clear_other w64 c.args.word c.args.b c.requires b low apart
