use Rattle.std.proofs.Common.{◌≡◌, ℕ, ◌<◌, ◌^◌, subst, sym, arith}
use Rattle.net_topology.proofs.Laws.{bits_tell_links}
use Rattle.fabric_nodes.proofs.WiresLemmas.{bits-room}
use Rattle.fabric_nodes.proofs.wires.Wires.link_bits.Goals as goal

pub overflow_add-bits : goal.overflow_add-bits
overflow_add-bits c =
    let low = subst (λ (n : ℕ). n < 2 ^ c.loop-port.port) (sym c.loop-port.invariant) (bits_tell_links c.args.self.now c.args.node c.loop-port.port).0 in
    omega (arith, bits-room c.loop-port.bits c.loop-port.port low (omega arith))

pub returns-clause-within : goal.returns-clause-within
returns-clause-within c =
    let low = subst (λ (n : ℕ). n < 2 ^ c.loop-port.port) (sym c.loop-port.invariant) (bits_tell_links c.args.self.now c.args.node c.loop-port.port).0 in
    let last : c.loop-port.port ≡ c.args.ports = omega arith in
    subst (λ (n : ℕ). c.loop-port.bits < 2 ^ n) last low
