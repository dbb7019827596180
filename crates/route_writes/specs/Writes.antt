-- Writes that a host asks one after another: what is asked, and what follows.
use Rattle.std.specs.Prelude.{◌≡◌, ◌||◌, ℕ, false, not, Bool, List, [], ◌∷◌, ◌++◌, Option, if◌then◌else◌}
use Rattle.std.specs.List.{flat_map, fold}
use Rattle.block_registers.specs.Registers.{Registers}
use Rattle.chdr_packets.specs.declared.packet.Packet.{Packet}
use Rattle.chdr_words.specs.declared.epid.Epid.{Epid}
use Rattle.net_topology.specs.Links.{end_of}
use Rattle.net_topology.specs.Parts.{way_of}
use Rattle.net_topology.specs.declared.plan.Plan.{Plan}
use Rattle.net_faults.specs.declared.fault.Fault.TheVariants as fault
use Rattle.net_machine.specs.declared.event.Event.{Event}
use Rattle.net_machine.specs.Faults.{is_named}
use Rattle.net_machine.specs.Moves.{after_journal, answered, asks}
use Rattle.net_machine.specs.State.{Node, State}
use Rattle.net_present.specs.Present.{Present}
use Rattle.net_lone.specs.Runs.{IsFirst, has_loss}
use Rattle.net_writes.specs.Crossings.{write_packet}
use Rattle.net_writes.specs.Routes.{crossed_over, crossing_between}
use Rattle.fabric_net.specs.NetView.{NetSeen}
use Rattle.fabric_net.specs.Standing.{StandsFor}
use Rattle.host_talk.specs.Settled.{IsSettledNow}

-- host x, of EPID src, writes a route between the EPIDs a and b
pub record Route : Type 0 where
  pub tree : Plan
  pub x : ℕ
  pub src : Epid
  pub a : Epid
  pub b : Epid

-- a write that was asked: the links of the route before and behind its node, and the journal that followed
pub record Write : Type 0 where
  pub before : ℕ
  pub behind : ℕ
  pub journal : List Event

-- it is asked over the way from the host to the node
abbrev pub packet_of : Route → Write → Packet
packet_of route it = write_packet route.tree.links route.src (way_of route.tree.links route.x (end_of route.tree.links it.before))
    (crossing_between route.tree.links route.a route.b it.before it.behind)

-- its journal happened, and the answer was taken out
abbrev pub wrote : Route → State → Write → State
wrote route w it = answered route.x (after_journal (asks route.x (packet_of route it) w) it.journal)

abbrev pub wrote_all : Route → State → List Write → State
wrote_all route w writes = fold (wrote route) w writes

-- each journal is what happens first, again and again, where its write is asked in the state that the one before left
abbrev pub AreFirst : Route → State → List Write → Type 0
AreFirst route w [] = Unit {0}
AreFirst route w (it ∷ writes) = IsFirst (asks route.x (packet_of route it) w) it.journal × AreFirst route (wrote route w it) writes

abbrev pub journal_of : List Write → List Event
journal_of writes = flat_map (λ (it : Write). it.journal) writes

-- it or its answer was lost
abbrev pub is_lost : Write → Bool
is_lost it = has_loss it.journal

-- there is one at each node between these links, in order, and none was lost
abbrev pub AreBetween : List ℕ → List Write → Type 0
AreBetween [] [] = Unit {0}
AreBetween [] (it ∷ writes) = ⊥
AreBetween (d ∷ []) [] = Unit {0}
AreBetween (d ∷ []) (it ∷ writes) = ⊥
AreBetween (d ∷ e ∷ ds) [] = ⊥
AreBetween (d ∷ e ∷ ds) (it ∷ writes) = (it.before ≡ d) × (it.behind ≡ e) × (is_lost it ≡ false) × AreBetween (e ∷ ds) writes

-- ---- on a net

-- a net, and the registers in the slots
pub record Desk : Type 0 where
  pub net : NetSeen
  pub banks : List (Option Registers)

-- from a state for which the net stood these writes lead to one for which it stands
pub record AreWritten (route : Route) (writes : List Write) (new : Present) (left : List (Option Registers)) (w : State) : Type 0 where
  pub first : AreFirst route w writes
  pub stands : StandsFor new (wrote_all route w writes)
  pub banks : (wrote_all route w writes).banks ≡ left

-- these writes were asked, and nothing else happened
pub record HasAsked (route : Route) (writes : List Write) (old new : Desk) : Type 0 where
  pub written : new.net.journal ≡ old.net.journal ++ journal_of writes
  pub each : (w : State) → StandsFor old.net.present w → w.banks ≡ old.banks → AreWritten route writes new.net.present new.banks w
  pub settled : IsSettledNow new.net.present
  pub same : new.net.present.tree ≡ old.net.present.tree
  pub kept : new.banks ≡ old.banks

-- the nodes when the entries between links d and e are written
abbrev pub crossed_between : Route → ℕ → ℕ → List Node → List Node
crossed_between route d e nodes =
    crossed_over route.tree route.src (way_of route.tree.links route.x (end_of route.tree.links d)) (crossing_between route.tree.links route.a route.b d e) nodes

-- the next request of a net is to be lost
abbrev pub loses_request_now : Present → Bool
loses_request_now p = is_named p.faults (fault.Request p.requests)

-- the next answer is
abbrev pub loses_answer_now : Present → Bool
loses_answer_now p = is_named p.faults (fault.Answer p.answers)

-- one was asked at the node between links d and e, and its answer came or not; it was done, unless it was lost itself
pub record HasCrossed (route : Route) (d e : ℕ) (came : Bool) (old new : Desk) : Type 0 where
  pub journal : List Event
  pub asked : HasAsked route (record { before = d; behind = e; journal = journal } ∷ []) old new
  pub lost : has_loss journal ≡ not came
  pub back : came ≡ not (loses_request_now old.net.present || loses_answer_now old.net.present)
  pub nodes : new.net.present.nodes
      ≡ (if loses_request_now old.net.present then old.net.present.nodes else crossed_between route d e old.net.present.nodes)
