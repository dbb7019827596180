-- What of a state its present rests on: facts that hold in each state of a run.
use Rattle.std.specs.Prelude.{◌≡◌, ℕ, ◌<◌, ◌≤◌, List, ◌∷◌, length, Option, Some, false}
use Rattle.block_library.specs.Blocks.{FitsKind, inputs}
use Rattle.chdr_packets.specs.declared.packet.Body.{Body}
use Rattle.chdr_packets.specs.declared.packet.Body.TheVariants as body
use Rattle.endpoint_laws.specs.Laws.{SpellsTold}
use Rattle.stream_endpoint.specs.InEnd.{Means}
use Rattle.net_machine.specs.declared.plan.RunPlan.{RunPlan}
use Rattle.chdr_words.specs.declared.epid.Epid.{Epid}
use Rattle.net_topology.specs.declared.plan.NodePlan.TheVariants.{Endpoint}
use Rattle.net_machine.specs.Conditions.{ends_at_rx}
use Rattle.net_machine.specs.Nodes.{block_on, planned}
use Rattle.net_machine.specs.Plans.{block_at, is_rx, stream_into}
use Rattle.net_machine.specs.State.{Entry, State, Tag, queue_at, stream_at}
use Rattle.net_machine.specs.Streams.{counts_in, told_in}

-- a command and a status spell what their tags tell
abbrev pub Spells : Tag → Body → Type 0
Spells tag (body.Samples time payload) = Unit {0}
Spells tag (body.Command c) = Means c (counts_in tag)
Spells tag (body.Status status) = SpellsTold status (told_in tag)
Spells tag (body.Control control) = Unit {0}
Spells tag (body.Management m) = Unit {0}

-- each input of a block has a stream of its own, and an Rx's alone is taken outside the network
pub record ArePlanned (plan : RunPlan) : Type 0 where
  pub kinds : (b : ℕ) → FitsKind (block_at plan b).kind
  pub inputs : (b i s : ℕ) → stream_into plan (block_at plan b) i ≡ Some s → i < inputs (block_at plan b).kind
  pub once : (b c i j s : ℕ) → stream_into plan (block_at plan b) i ≡ Some s → stream_into plan (block_at plan c) j ≡ Some s
      → (b ≡ c) × (i ≡ j)
  pub takers : (b i s : ℕ) → stream_into plan (block_at plan b) i ≡ Some s → ends_at_rx plan s ≡ is_rx (block_at plan b).kind

-- what was taken was given, each entry spells its tag, streams end at blocks of their own, and no Rx stands at an
-- endpoint
pub record FitsPresent (w : State) : Type 0 where
  pub taken : (s : ℕ) → (stream_at w s).taken ≤ length (stream_at w s).given
  pub spelled : (q : ℕ) (e : Entry) (rest : List Entry) → queue_at w.queues q ≡ e ∷ rest → Spells e.tag e.packet.body
  pub ends : ArePlanned w.plan
  pub registers : (x b : ℕ) (epid : Epid) (bank : Option ℕ) → planned w.tree x ≡ Some (Endpoint epid bank)
      → block_on w epid ≡ Some b → is_rx (block_at w.plan b).kind ≡ false
