-- What changes a network: its events, and what is done to it from outside. Runs are lists of these.
use Rattle.std.specs.Prelude.{◌≡◌, ℕ, ◌+◌, ◌<◌, ◌≤◌, ◌||◌, Bool, true, false, IsTrue, List, [], ◌∷◌, ◌++◌, length, map, drop, sum_by, Option}
use Rattle.std.specs.List.{All}
use Rattle.block_registers.specs.Registers.{Registers}
use Rattle.chdr_packets.specs.Fits.{FitsPacket}
use Rattle.chdr_packets.specs.declared.packet.Body.{Body}
use Rattle.chdr_packets.specs.declared.packet.Body.TheVariants as body
use Rattle.chdr_packets.specs.declared.packet.Packet.{Packet}
use Rattle.chdr_words.specs.declared.management.Management.{Management}
use Rattle.net_nodes.specs.Operations.{asked_in}
use Rattle.net_nodes.specs.Perform.{last_hop}
use Rattle.net_faults.specs.declared.fault.Fault.{Fault}
use Rattle.net_machine.specs.declared.event.Event.{Event}
use Rattle.net_machine.specs.Conditions.{enabled}
use Rattle.net_machine.specs.Effects.{after, on_node}
use Rattle.net_machine.specs.Faults.{renamed}
use Rattle.net_machine.specs.Nodes.{is_host_at, own_epid}
use Rattle.net_machine.specs.Queues.{forward_vc}
use Rattle.net_machine.specs.State.{Entry, Node, State, node_at}

pub data Move : Type 0 where
  -- an event happens
  Happens : Event → Move
  -- a request is given to host x
  Asks : ℕ → Packet → Move
  -- the first answer that came to node x is taken out
  Answered : ℕ → Move
  -- requests and answers to lose are named
  Marks : List Fault → Move
  -- the caller puts other registers into the slots
  Loads : List (Option Registers) → Move

-- a management packet is asked
abbrev pub is_management : Body → Bool
is_management (body.Samples time payload) = false
is_management (body.Status status) = false
is_management (body.Command command) = false
is_management (body.Control control) = false
is_management (body.Management m) = true

-- a request is given to host x; a management packet may change tables
abbrev pub asks : ℕ → Packet → State → State
asks x p w = on_node x (λ n. record n { requests = n.requests ++ p ∷ [] })
    (record w { walked = w.walked || is_management p.body })

-- the first answer that came to node x is taken out
abbrev pub answered : ℕ → State → State
answered x w = on_node x (λ n. record n { answers = drop 1 n.answers }) w

-- requests and answers to lose are named, in place of those before, and counted anew
abbrev pub marked : List Fault → State → State
marked faults w = record w { faults = renamed w.faults faults; requests = 0; answers = 0 }

-- what a move does
abbrev pub after_move : State → Move → State
after_move w (Happens e) = after w e
after_move w (Asks x p) = asks x p w
after_move w (Answered x) = answered x w
after_move w (Marks faults) = marked faults w
after_move w (Loads banks) = record w { banks = banks }

-- all queues are empty
abbrev pub AreEmpty : State → Type 0
AreEmpty w = All (λ (queue : List Entry). queue ≡ []) w.queues

-- no event is enabled
abbrev pub IsStill : State → Type 0
IsStill w = (e : Event) → enabled w e ≡ false

-- nothing is under way, no event is enabled, and no node holds an answer that came to it
pub record IsAtRest (w : State) : Type 0 where
  pub empty : AreEmpty w
  pub still : IsStill w
  pub heard : All (λ (n : Node). n.answers ≡ []) w.nodes

-- how many answers the hops of a management packet ask
abbrev pub asked_by : Management → ℕ
asked_by m = sum_by asked_in m.hops

-- what host x may ask at this state: a control request, or at rest a management packet with room for its answers
abbrev pub IsRequest : State → ℕ → Packet → Body → Type 0
IsRequest w x p (body.Samples time payload) = ⊥
IsRequest w x p (body.Status status) = ⊥
IsRequest w x p (body.Command command) = ⊥
IsRequest w x p (body.Control control) = (control.ack ≡ false) × (control.src ≡ own_epid w.tree x)
IsRequest w x p (body.Management m) =
    (p.dst.0 ≡ 0) × (m.src ≡ own_epid w.tree x) × (length (last_hop m) + asked_by m ≤ 256) × IsAtRest w

-- a request may be given to a host
pub record CanAsk (w : State) (x : ℕ) (p : Packet) : Type 0 where
  pub host : is_host_at w.tree x ≡ true
  pub few : length (node_at w x).requests < 8
  pub fits : FitsPacket p
  pub channel : p.vc ≡ forward_vc
  pub request : IsRequest w x p p.body

-- a move is allowed
abbrev pub IsAllowed : State → Move → Type 0
IsAllowed w (Happens e) = IsTrue (enabled w e)
IsAllowed w (Asks x p) = CanAsk w x p
IsAllowed w (Answered x) = Unit {0}
IsAllowed w (Marks faults) = AreEmpty w
IsAllowed w (Loads banks) = Unit {0}

-- moves are allowed, one after another
unfoldable pub IsLegal : State → List Move → Type 0
IsLegal w [] = Unit {0}
IsLegal w (move ∷ moves) = IsAllowed w move × IsLegal (after_move w move) moves

-- the state that moves leave
unfoldable pub after_all : State → List Move → State
after_all w [] = w
after_all w (move ∷ moves) = after_all (after_move w move) moves

-- the moves of a journal
abbrev pub moves_of : List Event → List Move
moves_of journal = map Happens journal

-- the state that a journal leaves
abbrev pub after_journal : State → List Event → State
after_journal w journal = after_all w (moves_of journal)

-- a journal is legal, and no event is enabled after it
pub record IsWhole (w : State) (journal : List Event) : Type 0 where
  pub legal : IsLegal w (moves_of journal)
  pub still : IsStill (after_journal w journal)
