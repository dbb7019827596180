-- Before a management packet is asked tables lead; from then on no stream has anything under way or to do.
use Rattle.std.specs.Prelude.{◌≡◌, ℕ, false, IsTrue, Some}
use Rattle.std.specs.List.{AllByRecursion}
use Rattle.chdr_packets.specs.declared.packet.Packet.{Packet}
use Rattle.chdr_words.specs.declared.command.CmdOp.{CmdOp}
use Rattle.net_topology.specs.Links.{link_at}
use Rattle.net_machine.specs.declared.event.Event.{Event}
use Rattle.net_machine.specs.declared.event.Event.TheVariants.{Feed, Seen}
use Rattle.net_machine.specs.Conditions.{can_order, can_send, enabled}
use Rattle.net_machine.specs.Effects.{after}
use Rattle.net_machine.specs.Front.{front, front_at}
use Rattle.net_machine.specs.Plans.{plan_at}
use Rattle.net_machine.specs.State.{Message, State, Tag, node_at}
use Rattle.net_ways.specs.Hops.{GoesByTable, IsUnseen}
use Rattle.net_ways.specs.Standing.{ArePlaced, HaveWays, IsMessage}
use Rattle.net_flows.specs.Flows.{IsSteady}
use Rattle.net_lawful.specs.Messages.{EachEntry}

-- a packet goes by tables, and so changes none
abbrev pub KeepsTables : Packet → Type 0
KeepsTables p = GoesByTable p p.body

-- Tables lead each stream both ways, and its entries stand there. No packet in a queue changes a table, and
-- none that was asked at a node with a link will.
pub record AreLed (w : State) : Type 0 where
  pub ways : HaveWays w
  pub placed : ArePlaced w
  pub queued : EachEntry (λ tag p. KeepsTables p) w
  pub asked : (x d : ℕ) → link_at w.tree.links x 0 ≡ Some d → AllByRecursion KeepsTables (node_at w x).requests

-- an entry is no stream's
pub record IsNoStreams (its : Tag) (p : Packet) : Type 0 where
  pub body : IsMessage p.body
  pub tag : its ≡ Message

-- No entry is a stream's, and no event of a stream or a block would be enabled, whatever room there is.
pub record AreStilled (w : State) : Type 0 where
  pub queued : EachEntry IsNoStreams w
  pub sends : (s : ℕ) → can_send (plan_at w.plan s).flow (front_at (front w) s) (front_at (front w) s).ready ≡ false
  pub orders : (s : ℕ) (op : CmdOp) → can_order (front w) s op ≡ false
  pub reports : (s : ℕ) → (front_at (front w) s).due ≡ false
  pub sees : (s n : ℕ) → enabled w (Seen s n) ≡ false
  pub feeds : (b i : ℕ) → enabled w (Feed b i) ≡ false

-- No event asks a management packet.
abbrev pub EventsAskNothing : Type 0
EventsAskNothing = (w : State) (e : Event) → (after w e).walked ≡ w.walked

-- Once one was asked, no stream sees what happens.
abbrev pub StilledIsUnseen : Type 0
StilledIsUnseen = (w : State) (e : Event) → IsSteady w → AreStilled w → IsTrue (enabled w e) → (s : ℕ) → IsUnseen w (after w e) s
