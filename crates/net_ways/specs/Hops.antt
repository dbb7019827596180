-- What a Hop does with an entry of a stream: on its way it stays there, and at its end it comes to the stream.
use Rattle.std.specs.Prelude.{◌≡◌, ℕ, ◌==◌, false, List, [], ◌∷◌, ◌++◌, Option, Some}
use Rattle.chdr_packets.specs.declared.packet.Body.{Body}
use Rattle.chdr_packets.specs.declared.packet.Body.TheVariants as body
use Rattle.chdr_packets.specs.declared.packet.Packet.{Packet}
use Rattle.chdr_words.specs.declared.command.Command.{Command}
use Rattle.chdr_words.specs.declared.status.Status.{Status}
use Rattle.net_topology.specs.Leads.{sent_on}
use Rattle.net_machine.specs.declared.event.Event.TheVariants.{Hop}
use Rattle.net_machine.specs.Effects.{after, joins, leaves, on_stream}
use Rattle.net_machine.specs.Nodes.{exits_of}
use Rattle.net_machine.specs.Plans.{plan_at, stream_from, stream_to}
use Rattle.net_machine.specs.Queues.{channel_of, link_of_queue, queue_of}
use Rattle.net_machine.specs.State.{Entry, State, Stream, queue_at, stream_at}
use Rattle.net_machine.specs.Streams.{counts_in, gets, gets_order, gets_status, told_in}
use Rattle.net_ways.specs.Ways.{HasQueues, IsLedTo, ahead, back, back_way, forward_way}

-- what stream s has and has under way is the same in both states
pub record IsUnseen (w v : State) (s : ℕ) : Type 0 where
  pub plan : v.plan ≡ w.plan
  pub tree : v.tree ≡ w.tree
  pub stream : stream_at v s ≡ stream_at w s
  pub ahead : ahead v s ≡ ahead w s
  pub back : back v s ≡ back w s

-- the front entry e of queue q joins queue r
abbrev pub moved : State → ℕ → ℕ → Entry → List Entry → State
moved w q r e rest = joins r e (leaves q rest w)

-- the front entry of queue q is gone, and stream s changes
abbrev pub taken_in : State → ℕ → ℕ → List Entry → (Stream → Stream) → State
taken_in w s q rest next = on_stream s next (leaves q rest w)

-- a packet goes by tables: each but a management packet for no EPID
abbrev pub GoesByTable : Packet → Body → Type 0
GoesByTable p (body.Samples time payload) = Unit {0}
GoesByTable p (body.Command c) = Unit {0}
GoesByTable p (body.Status status) = Unit {0}
GoesByTable p (body.Control control) = Unit {0}
GoesByTable p (body.Management m) = (p.dst.0 == 0) ≡ false

-- samples and commands go to a consumer
abbrev pub GoesAhead : Body → Type 0
GoesAhead (body.Samples time payload) = Unit {0}
GoesAhead (body.Command c) = Unit {0}
GoesAhead (body.Status status) = ⊥
GoesAhead (body.Control control) = ⊥
GoesAhead (body.Management m) = ⊥

-- statuses go back to a producer
abbrev pub GoesBack : Body → Type 0
GoesBack (body.Samples time payload) = ⊥
GoesBack (body.Command c) = ⊥
GoesBack (body.Status status) = Unit {0}
GoesBack (body.Control control) = ⊥
GoesBack (body.Management m) = ⊥

-- Where the table sends an entry on, a Hop moves it to the next queue of its channel.
abbrev pub HopsByTable : Type 0
HopsByTable = (w : State) (q d : ℕ) (e : Entry) (rest : List Entry)
    → queue_at w.queues q ≡ e ∷ rest → GoesByTable e.packet e.packet.body
    → sent_on w.tree (exits_of w.nodes) e.packet.dst (link_of_queue q) ≡ Some d
    → after w (Hop q) ≡ moved w q (queue_of d (channel_of q)) e rest

-- a Hop of the front entry e of queue q moves it to queue r, and stream s has the same under way
pub record StaysOnWay (w : State) (s q r : ℕ) (e : Entry) (rest : List Entry) : Type 0 where
  pub moves : after w (Hop q) ≡ moved w q r e rest
  pub unseen : IsUnseen w (after w (Hop q)) s

-- Samples and commands that hop on stay on their way.
abbrev pub HopsAhead : Type 0
HopsAhead = (w : State) (s q r : ℕ) (before behind : List ℕ) (e : Entry) (rest : List Entry)
    → HasQueues w → IsLedTo w (plan_at w.plan s).from (plan_at w.plan s).to
    → queue_at w.queues q ≡ e ∷ rest → forward_way w.tree (plan_at w.plan s) ≡ before ++ q ∷ r ∷ behind
    → GoesAhead e.packet.body → e.packet.dst ≡ (plan_at w.plan s).to
    → StaysOnWay w s q r e rest

-- Statuses that hop on stay on the way back.
abbrev pub HopsBack : Type 0
HopsBack = (w : State) (s q r : ℕ) (before behind : List ℕ) (e : Entry) (rest : List Entry)
    → HasQueues w → IsLedTo w (plan_at w.plan s).to (plan_at w.plan s).from
    → queue_at w.queues q ≡ e ∷ rest → back_way w.tree (plan_at w.plan s) ≡ before ++ q ∷ r ∷ behind
    → GoesBack e.packet.body → e.packet.dst ≡ (plan_at w.plan s).from
    → StaysOnWay w s q r e rest

-- the first entry under way to the consumer of stream s leaves the queues
pub record LeavesAhead (w v : State) (s : ℕ) (e : Entry) : Type 0 where
  pub ahead : ahead w s ≡ e ∷ ahead v s
  pub back : back v s ≡ back w s

-- the first entry under way to its producer leaves the queues
pub record LeavesBack (w v : State) (s : ℕ) (e : Entry) : Type 0 where
  pub ahead : ahead v s ≡ ahead w s
  pub back : back w s ≡ e ∷ back v s

-- a Hop of the front entry of queue q brings it to its stream, which changes
pub record ComesAhead (w : State) (s q : ℕ) (e : Entry) (rest : List Entry) (next : Stream → Stream) : Type 0 where
  pub comes : after w (Hop q) ≡ taken_in w s q rest next
  pub leaves : LeavesAhead w (after w (Hop q)) s e

pub record ComesBack (w : State) (s q : ℕ) (e : Entry) (rest : List Entry) (next : Stream → Stream) : Type 0 where
  pub comes : after w (Hop q) ≡ taken_in w s q rest next
  pub leaves : LeavesBack w (after w (Hop q)) s e

-- Samples that hop from the last queue of their way come to the receiver.
abbrev pub SamplesCome : Type 0
SamplesCome = (w : State) (s q : ℕ) (before : List ℕ) (e : Entry) (rest : List Entry) (time : Option ℕ) (payload : List ℕ)
    → HasQueues w → IsLedTo w (plan_at w.plan s).from (plan_at w.plan s).to
    → stream_to w.plan (plan_at w.plan s).to ≡ Some s
    → queue_at w.queues q ≡ e ∷ rest → forward_way w.tree (plan_at w.plan s) ≡ before ++ q ∷ []
    → e.packet.body ≡ body.Samples time payload → e.packet.dst ≡ (plan_at w.plan s).to
    → ComesAhead w s q e rest (gets e.packet)

-- So do commands.
abbrev pub CommandsCome : Type 0
CommandsCome = (w : State) (s q : ℕ) (before : List ℕ) (e : Entry) (rest : List Entry) (c : Command)
    → HasQueues w → IsLedTo w (plan_at w.plan s).from (plan_at w.plan s).to
    → stream_to w.plan (plan_at w.plan s).to ≡ Some s
    → queue_at w.queues q ≡ e ∷ rest → forward_way w.tree (plan_at w.plan s) ≡ before ++ q ∷ []
    → e.packet.body ≡ body.Command c → e.packet.dst ≡ (plan_at w.plan s).to
    → ComesAhead w s q e rest (gets_order c.op (counts_in e.tag))

-- Statuses that hop from the last queue of their way come to the sender.
abbrev pub StatusesCome : Type 0
StatusesCome = (w : State) (s q : ℕ) (before : List ℕ) (e : Entry) (rest : List Entry) (status : Status)
    → HasQueues w → IsLedTo w (plan_at w.plan s).to (plan_at w.plan s).from
    → stream_from w.plan (plan_at w.plan s).from ≡ Some s
    → queue_at w.queues q ≡ e ∷ rest → back_way w.tree (plan_at w.plan s) ≡ before ++ q ∷ []
    → e.packet.body ≡ body.Status status → e.packet.dst ≡ (plan_at w.plan s).from
    → ComesBack w s q e rest (gets_status (plan_at w.plan s) (told_in e.tag))
