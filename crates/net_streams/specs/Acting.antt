-- Each event of a stream is an act of the machine of one stream.
use Rattle.std.specs.Prelude.{◌≡◌, ℕ, ◌<◌, ◌⊎◌, Bool, IsTrue, List, [], ◌∷◌, ◌++◌, length, Option, Some}
use Rattle.chdr_packets.specs.declared.packet.Body.TheVariants as body
use Rattle.chdr_packets.specs.declared.packet.Packet.{Packet}
use Rattle.chdr_words.specs.declared.command.CmdOp.TheVariants.{Init, Ping, Resync}
use Rattle.chdr_words.specs.declared.command.Command.{Command}
use Rattle.chdr_words.specs.declared.status.Status.{Status}
use Rattle.stream_endpoint.specs.Epochs.{Told}
use Rattle.stream_endpoint.specs.Sender.{next_number}
use Rattle.stream_endpoint.specs.declared.count.Count.{Count}
use Rattle.stream_laws.specs.Acts.{Act, Allowed, after as act_after}
use Rattle.stream_laws.specs.Machine.{State as OneStream, number_at}
use Rattle.net_machine.specs.declared.event.Event.TheVariants as event
use Rattle.net_machine.specs.Conditions.{enabled}
use Rattle.net_machine.specs.Effects.{after}
use Rattle.net_machine.specs.Plans.{plan_at, stream_from, stream_to}
use Rattle.net_machine.specs.State.{Entry, State, Sample, Order, Report, queue_at, stream_at}
use Rattle.net_ways.specs.Hops.{IsUnseen}
use Rattle.net_ways.specs.Ways.{HasQueues, IsLedTo, back_way, forward_way}
use Rattle.net_streams.specs.Shows.{Shows, terms_of}

-- an act leads from a state that w shows of stream s to one that v shows
pub record Acts (w v : State) (s : ℕ) (closed : Bool) (st : OneStream Packet) : Type 0 where
  pub act : Act Packet
  pub allowed : Allowed (terms_of (plan_at w.plan s)) st act
  pub shows : Shows v s closed (act_after (terms_of (plan_at w.plan s)) st act)

-- What stream s doesn't see changes nothing of what is shown of it.
abbrev pub UnseenShows : Type 0
UnseenShows = (w v : State) (s : ℕ) (closed : Bool) (st : OneStream Packet) → IsUnseen w v s → Shows w s closed st → Shows v s closed st

-- the network shows st of its stream s, which it has
pub record IsShown (w : State) (s : ℕ) (closed : Bool) (st : OneStream Packet) : Type 0 where
  pub there : s < length w.streams
  pub queues : HasQueues w
  pub shows : Shows w s closed st

-- An Enter is a sending: the first ready packet has the number of its place.
abbrev pub EnterActs : Type 0
EnterActs = (w : State) (s : ℕ) (closed : Bool) (st : OneStream Packet) (p : Packet) (rest : List Packet) (time : Option ℕ) (payload : List ℕ)
    → IsShown w s closed st → IsLedTo w (plan_at w.plan s).from (plan_at w.plan s).to
    → IsTrue (enabled w (event.Enter s)) → (stream_at w s).ready ≡ p ∷ rest → p.body ≡ body.Samples time payload
    → next_number (stream_at w s).sender ≡ number_at (terms_of (plan_at w.plan s)) (length (stream_at w s).sent)
    → Acts w (after w (event.Enter s)) s closed st

-- A Report is the sending of the status that is due.
abbrev pub ReportActs : Type 0
ReportActs = (w : State) (s : ℕ) (closed : Bool) (st : OneStream Packet)
    → IsShown w s closed st → IsLedTo w (plan_at w.plan s).to (plan_at w.plan s).from
    → IsTrue (enabled w (event.Report s)) → Acts w (after w (event.Report s)) s closed st

-- the front entry e of the last queue of the way of stream s, with those behind it
pub record IsAtEnd (w : State) (s q : ℕ) (e : Entry) (rest : List Entry) : Type 0 where
  pub forth : IsLedTo w (plan_at w.plan s).from (plan_at w.plan s).to
  pub mine : stream_to w.plan (plan_at w.plan s).to ≡ Some s
  pub front : queue_at w.queues q ≡ e ∷ rest
  pub before : List ℕ
  pub way : forward_way w.tree (plan_at w.plan s) ≡ before ++ q ∷ []
  pub dst : e.packet.dst ≡ (plan_at w.plan s).to

-- Samples that come to the end of their way are kept, break the receiver, or are discarded.
abbrev pub SamplesAct : Type 0
SamplesAct = (w : State) (s q : ℕ) (closed : Bool) (st : OneStream Packet) (e : Entry) (rest : List Entry) (time : Option ℕ) (payload : List ℕ) (place : ℕ)
    → IsShown w s closed st → IsAtEnd w s q e rest → e.packet.body ≡ body.Samples time payload → e.tag ≡ Sample place
    → e.packet.seq ≡ number_at (terms_of (plan_at w.plan s)) place
    → Acts w (after w (event.Hop q)) s closed st

-- A command that comes to the end of its way is obeyed, or ends an epoch.
abbrev pub CommandsAct : Type 0
CommandsAct = (w : State) (s q : ℕ) (closed : Bool) (st : OneStream Packet) (e : Entry) (rest : List Entry) (c : Command) (counts : Count)
    → IsShown w s closed st → IsAtEnd w s q e rest → e.packet.body ≡ body.Command c → e.tag ≡ Order counts
    → (c.op ≡ Init) ⊎ ((c.op ≡ Ping) ⊎ (c.op ≡ Resync))
    → Acts w (after w (event.Hop q)) s closed st

-- the front entry e of the last queue of the way back of stream s, with those behind it
pub record IsAtStart (w : State) (s q : ℕ) (e : Entry) (rest : List Entry) : Type 0 where
  pub back : IsLedTo w (plan_at w.plan s).to (plan_at w.plan s).from
  pub mine : stream_from w.plan (plan_at w.plan s).from ≡ Some s
  pub front : queue_at w.queues q ≡ e ∷ rest
  pub before : List ℕ
  pub way : back_way w.tree (plan_at w.plan s) ≡ before ++ q ∷ []
  pub dst : e.packet.dst ≡ (plan_at w.plan s).from

-- A status that comes to the end of its way is heard.
abbrev pub StatusesAct : Type 0
StatusesAct = (w : State) (s q : ℕ) (closed : Bool) (st : OneStream Packet) (e : Entry) (rest : List Entry) (status : Status) (told : Told)
    → IsShown w s closed st → IsAtStart w s q e rest → e.packet.body ≡ body.Status status → e.tag ≡ Report told
    → Acts w (after w (event.Hop q)) s closed st

-- A taking at an Rx takes what it takes of its stream.
abbrev pub SeenActs : Type 0
SeenActs = (w : State) (s n : ℕ) (closed : Bool) (st : OneStream Packet)
    → IsShown w s closed st → IsTrue (enabled w (event.Seen s n)) → Acts w (after w (event.Seen s n)) s closed st

-- the front entry e of queue q of the way of stream s, with those behind it
pub record IsAhead (w : State) (s q : ℕ) (e : Entry) (rest : List Entry) : Type 0 where
  pub forth : IsLedTo w (plan_at w.plan s).from (plan_at w.plan s).to
  pub mine : stream_to w.plan (plan_at w.plan s).to ≡ Some s
  pub front : queue_at w.queues q ≡ e ∷ rest
  pub before : List ℕ
  pub behind : List ℕ
  pub way : forward_way w.tree (plan_at w.plan s) ≡ before ++ q ∷ behind
  pub dst : e.packet.dst ≡ (plan_at w.plan s).to

-- Samples that are lost on their way are lost to their stream.
abbrev pub SamplesLost : Type 0
SamplesLost = (w : State) (s q : ℕ) (closed : Bool) (st : OneStream Packet) (e : Entry) (rest : List Entry) (time : Option ℕ) (payload : List ℕ) (place : ℕ)
    → IsShown w s closed st → IsAhead w s q e rest → e.packet.body ≡ body.Samples time payload → e.tag ≡ Sample place
    → Acts w (after w (event.Lose q)) s closed st

-- So are commands.
abbrev pub CommandsLost : Type 0
CommandsLost = (w : State) (s q : ℕ) (closed : Bool) (st : OneStream Packet) (e : Entry) (rest : List Entry) (c : Command) (counts : Count)
    → IsShown w s closed st → IsAhead w s q e rest → e.packet.body ≡ body.Command c → e.tag ≡ Order counts
    → Acts w (after w (event.Lose q)) s closed st

-- the front entry e of queue q of the way back of stream s, with those behind it
pub record IsBehind (w : State) (s q : ℕ) (e : Entry) (rest : List Entry) : Type 0 where
  pub back : IsLedTo w (plan_at w.plan s).to (plan_at w.plan s).from
  pub mine : stream_from w.plan (plan_at w.plan s).from ≡ Some s
  pub front : queue_at w.queues q ≡ e ∷ rest
  pub before : List ℕ
  pub behind : List ℕ
  pub way : back_way w.tree (plan_at w.plan s) ≡ before ++ q ∷ behind
  pub dst : e.packet.dst ≡ (plan_at w.plan s).from

-- And statuses, on the way back.
abbrev pub StatusesLost : Type 0
StatusesLost = (w : State) (s q : ℕ) (closed : Bool) (st : OneStream Packet) (e : Entry) (rest : List Entry) (status : Status) (told : Told)
    → IsShown w s closed st → IsBehind w s q e rest → e.packet.body ≡ body.Status status → e.tag ≡ Report told
    → Acts w (after w (event.Lose q)) s closed st
