use Rattle.std.proofs.Common.{Some, ap, ◌∙◌}
use Rattle.chdr_packets.specs.declared.packet.Packet.{Packet}
use Rattle.fabric_parts.proofs.SourceLemmas.{next-unoffered, none-unoffered}
use Rattle.fabric_parts.proofs.source.Source.unoffered.Goals as goal

pub returns-in_ok-packet-in-Some : goal.returns-in_ok-packet-in-Some
returns-in_ok-packet-in-Some c =
    rw (← c.self.view_is, c.in-Some.is)
    (ap (λ (p : Packet). Some p) c.in_ok-packet-in-Some.ensures
    ∙ next-unoffered c.in-Some.plan c.self.inside.made c.self.inside.front.items c.if-self-plan.true)

pub returns-else-self-plan : goal.returns-else-self-plan
returns-else-self-plan c =
    rw (← c.self.view_is, c.in-Some.is) (none-unoffered c.in-Some.plan c.self.inside.made c.self.inside.front.items c.if-self-plan.false)
