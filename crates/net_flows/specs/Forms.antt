-- The form of a stream's packets, and what an entry of a queue tells beside its packet.
use Rattle.std.specs.Prelude.{◌≡◌, ◌*◌, ◌<◌, ◌⊎◌, ℕ, Bool, false, Some, length}
use Rattle.std.specs.List.{All, AllByRecursion}
use Rattle.std.specs.Option.{option_map_or}
use Rattle.block_library.specs.Within.{IsWithin}
use Rattle.chdr_packets.specs.declared.packet.Body.{Body}
use Rattle.chdr_packets.specs.declared.packet.Body.TheVariants as body
use Rattle.chdr_packets.specs.declared.packet.Packet.{Packet}
use Rattle.chdr_words.specs.declared.command.CmdOp.TheVariants.{Init, Ping, Resync}
use Rattle.chdr_words.specs.declared.command.Command.{Command}
use Rattle.stream_endpoint.specs.Epochs.{Told}
use Rattle.stream_endpoint.specs.declared.count.Count.{Count}
use Rattle.stream_laws.specs.Machine.{number_at}
use Rattle.net_machine.specs.declared.plan.RunPlan.{RunPlan}
use Rattle.net_machine.specs.CanBegin.{may_tell_time}
use Rattle.net_machine.specs.Plans.{block_at, plan_at, producer_of, stream_to}
use Rattle.net_machine.specs.State.{Entry, State, Stream, Message, Order, Report, Sample, queue_at, stream_at}
use Rattle.net_streams.specs.Shows.{terms_of}

-- the bytes of a sample of stream s, and the most bytes of samples in one of its packets
abbrev pub item_on : RunPlan → ℕ → ℕ
item_on plan s = option_map_or (λ b. (block_at plan b).item) (producer_of plan s) 0

abbrev pub most_on : RunPlan → ℕ → ℕ
most_on plan s = option_map_or (λ b. (block_at plan b).spp * (block_at plan b).item) (producer_of plan s) 0

-- its packets may tell times
abbrev pub timed_on : RunPlan → ℕ → Bool
timed_on plan s = option_map_or (λ b. may_tell_time plan (block_at plan b)) (producer_of plan s) false

-- a packet has the form of those of stream s: whole samples, no more than its producer's, on channel 0 and
-- without metadata
abbrev pub IsPacketOn : RunPlan → ℕ → Packet → Type 0
IsPacketOn plan s p = IsWithin (item_on plan s) (most_on plan s) (timed_on plan s) p

-- what is ready on stream s, and what its receiver kept, has this form
pub record HasForm (plan : RunPlan) (s : ℕ) (st : Stream) : Type 0 where
  pub ready : All (IsPacketOn plan s) st.ready
  pub given : All (IsPacketOn plan s) st.given

abbrev pub HaveForms : State → Type 0
HaveForms w = (s : ℕ) → s < length w.streams → HasForm w.plan s (stream_at w s)

-- an entry of samples tells its place in what its stream sent, and has the number of that place
pub record TellsPlace (plan : RunPlan) (e : Entry) : Type 0 where
  pub stream : ℕ
  pub mine : stream_to plan e.packet.dst ≡ Some stream
  pub there : stream < length plan.streams
  pub form : IsPacketOn plan stream e.packet
  pub place : ℕ
  pub tag : e.tag ≡ Sample place
  pub number : e.packet.seq ≡ number_at (terms_of (plan_at plan stream)) place

-- an entry of a command tells its whole counts, and is one that a sender gives
pub record TellsOrder (e : Entry) (c : Command) : Type 0 where
  pub counts : Count
  pub tag : e.tag ≡ Order counts
  pub op : (c.op ≡ Init) ⊎ ((c.op ≡ Ping) ⊎ (c.op ≡ Resync))

-- an entry of a status tells the receiver's gap and whole counts
pub record TellsReport (e : Entry) : Type 0 where
  pub told : Told
  pub tag : e.tag ≡ Report told

-- what an entry with this body tells
abbrev pub Tells : RunPlan → Entry → Body → Type 0
Tells plan e (body.Samples time payload) = TellsPlace plan e
Tells plan e (body.Command c) = TellsOrder e c
Tells plan e (body.Status status) = TellsReport e
Tells plan e (body.Control control) = e.tag ≡ Message
Tells plan e (body.Management m) = e.tag ≡ Message

-- each entry of each queue tells what its body asks
abbrev pub AreTelling : State → Type 0
AreTelling w = (q : ℕ) → AllByRecursion (λ (e : Entry). Tells w.plan e e.packet.body) (queue_at w.queues q)
