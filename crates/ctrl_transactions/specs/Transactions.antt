-- What a control transaction gives, and what it does to its host, the net and the registers.
use Rattle.std.specs.Prelude.{◌≡◌, ◌⊎◌, ◌||◌, ℕ, ◌++◌, Bool, List, Option, None, Some, is_none, Result, Ok, Err, if◌then◌else◌}
use Rattle.block_registers.specs.Operations.{answer}
use Rattle.block_registers.specs.Registers.{Registers}
use Rattle.chdr_words.specs.declared.control.Control.{Control}
use Rattle.chdr_words.specs.declared.epid.Epid.{Epid}
use Rattle.net_topology.specs.Leads.{Leads}
use Rattle.net_topology.specs.Tree.{node_with}
use Rattle.net_machine.specs.declared.event.Event.{Event}
use Rattle.net_machine.specs.Moves.{asks}
use Rattle.net_machine.specs.Nodes.{exits_of, place_at}
use Rattle.net_machine.specs.State.{State}
use Rattle.net_present.specs.Present.{Present}
use Rattle.net_lone.specs.Control.{loses_answer, loses_request}
use Rattle.net_lone.specs.Runs.{IsFirst, has_loss}
use Rattle.net_lone.specs.Talks.{control_left}
use Rattle.fabric_net.specs.NetView.{NetSeen}
use Rattle.fabric_net.specs.Standing.{StandsFor}
use Rattle.host_talk.specs.Settled.{IsSettledNow}
use Rattle.ctrl_transactions.specs.declared.fault.CtrlFault.{CtrlFault}
use Rattle.ctrl_transactions.specs.declared.fault.CtrlFault.TheVariants.{NoRoute, NoAck, Memory}
use Rattle.ctrl_transactions.specs.Requests.{HostSeen, asked_as, next_host, request_of}

-- a host with its net, and the registers in the slots
pub record Desk : Type 0 where
  pub host : HostSeen
  pub net : NetSeen
  pub banks : List (Option Registers)

-- a net's tables lead from one EPID to another
abbrev pub IsLed : Present → Epid → Epid → Type 0
IsLed p a b = Leads p.tree (exits_of p.nodes) a b

-- tables don't lead to the destination, and this is it; or they don't lead back, and this is the host
abbrev pub IsUnled : Present → Epid → Epid → Epid → Type 0
IsUnled p host dst epid =
    ((IsLed p host dst → ⊥) × (epid ≡ dst)) ⊎ (IsLed p host dst × (IsLed p dst host → ⊥) × (epid ≡ host))

-- the acknowledgement of node z, for what stands at the request's port, unless the request or it is to be lost
abbrev pub reply : State → ℕ → Epid → Control → Option Control
reply w z dst c = if loses_request w || loses_answer w then None else Some (answer dst (place_at w z c.dst_port) c)

-- host x asks the request of node z in this state: the journal is what happens first, again and again, the
-- acknowledgement is that of the node, and the registers are written unless the request is lost
pub record IsAsked (w : State) (x z : ℕ) (before : Desk) (dst : Epid) (request : Control) (journal : List Event) (found : Option Control) (after : Desk) : Type 0 where
  pub first : IsFirst (asks x (request_of before.host dst request) w) journal
  pub ack : found ≡ reply w z dst (asked_as before.host request)
  pub stands : StandsFor after.net.present (control_left w z (asked_as before.host request))
  pub banks : (control_left w z (asked_as before.host request)).banks ≡ after.banks

-- a request was asked, and this acknowledgement came, if one did
pub record HasAsked (before : Desk) (dst : Epid) (request : Control) (found : Option Control) (after : Desk) : Type 0 where
  pub forth : IsLed before.net.present before.host.epid dst
  pub back : IsLed before.net.present dst before.host.epid
  pub node : ℕ
  pub host : node_with before.net.present.tree.nodes before.host.epid ≡ Some node
  pub target : ℕ
  pub destination : node_with before.net.present.tree.nodes dst ≡ Some target
  pub journal : List Event
  pub written : after.net.journal ≡ before.net.journal ++ journal
  -- the request or the acknowledgement was lost exactly if none came
  pub lost : has_loss journal ≡ is_none found
  pub each : (w : State) → StandsFor before.net.present w → w.banks ≡ before.banks → IsAsked w node target before dst request journal found after
  pub settled : IsSettledNow after.net.present
  pub counted : after.host ≡ next_host before.host

-- What a transaction gives. Without a way there and back nothing is asked, and nothing changes.
abbrev pub IsTransaction : Desk → Epid → Control → Result Control CtrlFault → Desk → Type 0
IsTransaction before dst request (Ok ack) after = HasAsked before dst request (Some ack) after
IsTransaction before dst request (Err (NoRoute epid)) after = IsUnled before.net.present before.host.epid dst epid × (after ≡ before)
IsTransaction before dst request (Err NoAck) after = HasAsked before dst request None after
IsTransaction before dst request (Err Memory) after = Unit {0}
