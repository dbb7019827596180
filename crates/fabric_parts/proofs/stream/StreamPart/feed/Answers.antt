use Rattle.std.proofs.Common.{◌≡◌, ◌+◌, ◌-◌, arith, refl}
use Rattle.fabric_parts.proofs.stream.StreamPart.feed.Goals as goal

pub returns-clause-next : goal.returns-clause-next
returns-clause-next c =
    let one : c.self.inside.taken + 1 - c.self.inside.taken ≡ 1 = omega arith in
    rw (← c.self.view_is) (rw one (rw (c.take.ensures.into, c.take.ensures.untaken, c.pop_front.ensures.items) refl))
