-- What a run keeps of each stream in each of its states: the words of the report's promise.
use Rattle.std.specs.Prelude.{◌≡◌, ◌⊎◌, ℕ, ◌-◌, ◌<◌, ◌≤◌, List, [], ◌∷◌, length, take, drop, Some, IsTrue}
use Rattle.std.specs.List.{Contains}
use Rattle.std.specs.Option.{option_map_or}
use mathlib.Core.List.{IsPrefix}
use Rattle.block_library.specs.Memory.{lists}
use Rattle.chdr_packets.specs.declared.packet.Packet.{Packet}
use Rattle.stream_endpoint.specs.Epochs.{Cut}
use Rattle.net_machine.specs.declared.plan.RunPlan.{RunPlan}
use Rattle.net_machine.specs.Blocks.{fed_to, is_drained}
use Rattle.net_machine.specs.Front.{front}
use Rattle.net_machine.specs.Plain.{made_for, numbered_from}
use Rattle.net_machine.specs.Plans.{block_at, consumer_of, plan_at, producer_of}
use Rattle.net_machine.specs.State.{State, Stream, stream_at}
use Rattle.net_machine.specs.Streams.{taken_of}

-- a list from one place to another
abbrev pub part : {A : Type 0} → ℕ → ℕ → List A → List A
part from to xs = take (to - from) (drop from xs)

-- where the first epoch begins
abbrev pub origin : Cut
origin = record { sent = 0; given = 0 }

-- how far a stream has come
abbrev pub reach : Stream → Cut
reach st = record { sent = length st.sent; given = length st.given }

-- each epoch has the property: each lies between two cuts, and the last one ends here
abbrev pub EachEpoch : (Cut → Cut → Type 0) → List Cut → Cut → Type 0
EachEpoch Holds [] here = Holds origin here
EachEpoch Holds (cut ∷ cuts) here = Holds cut here × EachEpoch Holds cuts cut

-- what was given of an epoch is a prefix of what was sent of it
abbrev pub IsPrefixBetween : Stream → Cut → Cut → Type 0
IsPrefixBetween st from to = IsPrefix (part from.given to.given st.given) (part from.sent to.sent st.sent)

-- once a packet of an epoch is lost, only those before it are given in that epoch
abbrev pub StopsAtLoss : Stream → Cut → Cut → Type 0
StopsAtLoss st from to =
    (place : ℕ) → Contains st.lost place → from.sent ≤ place → place < to.sent → to.given - from.given ≤ place - from.sent

-- what the producer of stream s made so far, as the stream carries it
abbrev pub made_on : State → ℕ → List Packet
made_on w s = let stream = plan_at w.plan s in
    option_map_or (λ b. let block = block_at w.plan b in
    numbered_from stream 0 (made_for block stream (lists (fed_to w block 0) (fed_to w block 1))))
    (producer_of w.plan s) []

-- all that its producer makes was sent, and all that was sent was taken
pub record IsComplete (w : State) (s : ℕ) : Type 0 where
  pub sent : (stream_at w s).sent ≡ made_on w s
  pub taken : taken_of (stream_at w s) ≡ (stream_at w s).sent

-- what holds of stream s in each state of a run
pub record KeepsPromise (w : State) (s : ℕ) : Type 0 where
  pub prefixes : EachEpoch (IsPrefixBetween (stream_at w s)) (stream_at w s).cuts (reach (stream_at w s))
  pub taken : (stream_at w s).taken ≤ length (stream_at w s).given
  pub bytes : (stream_at w s).sender.outstanding.bytes ≤ (plan_at w.plan s).flow.cap_bytes
  pub packets : (stream_at w s).sender.outstanding.packets ≤ (plan_at w.plan s).flow.cap_packets
  pub stops : EachEpoch (StopsAtLoss (stream_at w s)) (stream_at w s).cuts (reach (stream_at w s))
  pub complete : IsTrue (is_drained (front w) s) → (stream_at w s).lost ≡ [] → IsComplete w s

-- a stream begins or ends at a block
abbrev pub HasEndAt : RunPlan → ℕ → ℕ → Type 0
HasEndAt plan s b = (producer_of plan s ≡ Some b) ⊎ (consumer_of plan s ≡ Some b)

-- a chain of streams leads from one to another, each with an end at a block of the next
pub data AreJoined (plan : RunPlan) : ℕ → ℕ → Type 0 where
  itself : {s : ℕ} → AreJoined plan s s
  through : {s u : ℕ} (t b : ℕ) → HasEndAt plan s b → HasEndAt plan t b → AreJoined plan t u → AreJoined plan s u
