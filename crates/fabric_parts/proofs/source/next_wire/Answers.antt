use Rattle.std.proofs.Common.{ℕ, Some, ap, sym, ◌∙◌}
use Rattle.fabric_parts.proofs.SourceLemmas.{first-left, none-left}
use Rattle.fabric_parts.proofs.source.next_wire.Goals as goal

pub returns-then-made-plan : goal.returns-then-made-plan
returns-then-made-plan c =
    rw c.in-Some.is (ap (λ (n : ℕ). Some n) c.wire_of.ensures ∙ sym (first-left c.in-Some.plan c.args.made c.if-made-plan.true))

pub returns-else-made-plan : goal.returns-else-made-plan
returns-else-made-plan c = rw c.in-Some.is (sym (none-left c.in-Some.plan c.args.made c.if-made-plan.false))
