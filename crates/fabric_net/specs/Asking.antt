-- What a host may ask, as far as the present tells, and what asking, answering and naming do with it.
use Rattle.std.specs.Prelude.{◌≡◌, ℕ, ◌+◌, ◌<◌, ◌≤◌, true, false, List, [], ◌∷◌, ◌++◌, length, drop}
use Rattle.chdr_packets.specs.Fits.{FitsPacket}
use Rattle.chdr_packets.specs.declared.packet.Body.{Body}
use Rattle.chdr_packets.specs.declared.packet.Body.TheVariants as body
use Rattle.chdr_packets.specs.declared.packet.Packet.{Packet}
use Rattle.net_nodes.specs.Perform.{last_hop}
use Rattle.net_faults.specs.declared.fault.Fault.{Fault}
use Rattle.net_machine.specs.Faults.{renamed}
use Rattle.net_machine.specs.Moves.{asked_by}
use Rattle.net_machine.specs.Nodes.{is_host_at, own_epid}
use Rattle.net_machine.specs.Queues.{forward_vc}
use Rattle.net_machine.specs.State.{node_in}
use Rattle.net_present.specs.Onward.{on_node_now}
use Rattle.net_present.specs.Present.{Present}
use Rattle.fabric_net.specs.Standing.{IsResting}

-- host x may ask this: a control request, or at rest a management packet with room for its answers
abbrev pub IsRequestNow : Present → ℕ → Packet → Body → Type 0
IsRequestNow p x packet (body.Samples time payload) = ⊥
IsRequestNow p x packet (body.Status status) = ⊥
IsRequestNow p x packet (body.Command command) = ⊥
IsRequestNow p x packet (body.Control control) = (control.ack ≡ false) × (control.src ≡ own_epid p.tree x)
IsRequestNow p x packet (body.Management m) =
    (packet.dst.0 ≡ 0) × (m.src ≡ own_epid p.tree x) × (length (last_hop m) + asked_by m ≤ 256) × IsResting p

-- a request may be given to a host
pub record CanAskNow (p : Present) (x : ℕ) (packet : Packet) : Type 0 where
  pub host : is_host_at p.tree x ≡ true
  pub few : length (node_in p.nodes x).requests < 8
  pub fits : FitsPacket packet
  pub channel : packet.vc ≡ forward_vc
  pub request : IsRequestNow p x packet packet.body

-- a request is given to node x
abbrev pub asked_now : ℕ → Packet → Present → Present
asked_now x packet p = on_node_now x (λ n. record n { requests = n.requests ++ packet ∷ [] }) p

-- the first answer that came to node x is taken out
abbrev pub answered_now : ℕ → Present → Present
answered_now x p = on_node_now x (λ n. record n { answers = drop 1 n.answers }) p

-- requests and answers to lose are named, in place of those before, and counted anew
abbrev pub marked_now : List Fault → Present → Present
marked_now faults p = record p { faults = renamed p.faults faults; requests = 0; answers = 0 }
