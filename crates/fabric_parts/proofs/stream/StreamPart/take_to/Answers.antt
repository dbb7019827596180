use Rattle.std.proofs.Common.{◌+◌, ◌-◌, ◌≤◌, length, sym, subst, arith, length-drop}
use Rattle.fabric_parts.specs.Streams.{StreamSeen}
use Rattle.fabric_parts.proofs.StreamLemmas.{taken-buffered}
use Rattle.fabric_parts.proofs.stream.StreamPart.take_to.Goals as goal

pub invariant_of-self : goal.invariant_of-self
invariant_of-self c =
    let s = c.self.inside in
    let handed = subst (λ (v : StreamSeen). c.args.n + length v.now.waiting ≤ v.now.given) (sym c.self.view_is) c.requires.handed in
    let more = subst (λ (v : StreamSeen). v.now.taken ≤ c.args.n) (sym c.self.view_is) c.requires.more in
    let k = c.args.n - s.taken in
    let left = length-drop k s.untaken.items in
    let within : k ≤ length s.untaken.items = omega (arith, c.self.invariant.counted) in
    let ends = c.self.invariant.ends in
    record {
      ends = record {
        valid = ends.valid;
        from = ends.from;
        out_flow = ends.out_flow;
        policy = ends.policy;
        to = rw c.take.ensures.into ends.to;
        into_flow = rw c.take.ensures.into ends.into_flow;
      };
      buffered = rw (c.take.ensures.into, c.take.ensures.untaken) (taken-buffered s.untaken.items k _ c.self.invariant.buffered within);
      few = rw c.take.ensures.untaken (omega (arith, left, c.self.invariant.few));
      counted = rw c.take.ensures.untaken (omega (arith, left, c.self.invariant.counted));
      waits = rw c.take.ensures.untaken (omega (arith, left, c.self.invariant.counted));
      sizes = rw c.take.ensures.untaken c.self.invariant.sizes;
      packets = c.self.invariant.packets;
    }
