-- What an event asks besides: memory that is taken, and counts that can rise.
use Rattle.std.specs.Prelude.{◌≡◌, ◌-◌, ◌^◌, ◌<◌, ℕ, List, ◌∷◌, length, Option, None, Some, IfSome, slice_get}
use Rattle.block_library.specs.Memory.{made}
use Rattle.chdr_packets.specs.declared.packet.Packet.{Packet}
use Rattle.chdr_words.specs.declared.management.Management.{Management}
use Rattle.net_nodes.specs.Budget.{Serves}
use Rattle.net_topology.specs.Links.{end_of}
use Rattle.net_machine.specs.declared.event.Event.{Event}
use Rattle.net_machine.specs.declared.event.Event.TheVariants as event
use Rattle.net_machine.specs.Front.{Queued}
use Rattle.net_machine.specs.Plans.{block_at, stream_into}
use Rattle.net_machine.specs.Queues.{link_of_queue}
use Rattle.net_present.specs.Kept.{block_now_at, now_at}
use Rattle.net_present.specs.Onward.{entries_at}
use Rattle.net_present.specs.Present.{Present}
use Rattle.net_needs.specs.Staying.{IsCounted}
use Rattle.fabric_lists.specs.BlocksView.{blocks_of, made_of, made_seen}
use Rattle.fabric_lists.specs.SitesView.{sites_of, spare_seen}
use Rattle.fabric_lists.specs.StreamsView.{streams_of}
use Rattle.fabric_nodes.specs.Exits.{walking_of}
use Rattle.fabric_events.specs.declared.fabric.Fabric.{Fabric}

-- a room is there exactly if the packet has a hop besides its last, and then it serves this packet
abbrev pub ServesIf : Option ℕ → Management → Type 0
ServesIf None m = length m.hops < 2
ServesIf (Some room) m = Serves room m

-- so it is where nodes perform the packet
abbrev pub HasAnswerRoom : Option ℕ → Packet → Type 0
HasAnswerRoom room p = IfSome (walking_of p p.body) (ServesIf room)

-- node x has a place in each list to which a packet that comes there may be added
pub record HasSpare (f : Fabric) (x : ℕ) : Type 0 where
  pub pending : 0 < (spare_seen (sites_of f.sites.items).spares x).pending
  pub answers : 0 < (spare_seen (sites_of f.sites.items).spares x).answers

-- so has the node to which the front entry of queue q comes, and the room is for its answers
pub record HopReady (f : Fabric) (room : Option ℕ) (q : ℕ) : Type 0 where
  pub spare : HasSpare f (end_of f.wires.links (link_of_queue q))
  pub answers : (e : Queued) (rest : List Queued) → entries_at f.queues.entries q ≡ e ∷ rest → HasAnswerRoom room e.packet

-- block b has made what it will give for the first waiting packet of the stream into its input i
abbrev pub FeedReady : Fabric → ℕ → ℕ → Type 0
FeedReady f b i = (s : ℕ) (p : Packet) → stream_into f.plan (block_at f.plan b) i ≡ Some s
    → slice_get (now_at (streams_of f.streams.items).now s).waiting 0 ≡ Some p
    → made_seen (made_of f.blocks.items) b ≡ Some (made (block_now_at (blocks_of f.blocks.items) b).kept p)

-- the memory that an event needs is taken
abbrev pub IsReady : Fabric → Option ℕ → Event → Type 0
IsReady f room (event.Enter s) = Unit {0}
IsReady f room (event.Command s op) = Unit {0}
IsReady f room (event.Report s) = Unit {0}
IsReady f room (event.Seen s n) = Unit {0}
IsReady f room (event.Feed b i) = FeedReady f b i
IsReady f room (event.Ask x) = Unit {0}
IsReady f room (event.Reply x) = Unit {0}
IsReady f room (event.Lose q) = Unit {0}
IsReady f room (event.Hop q) = HopReady f room q

-- each count can rise once more
abbrev pub HasCounts : Present → Type 0
HasCounts p = IsCounted (2 ^ 64 - 2) p
