-- What contracts see of a net, read from its fields.
use Rattle.std.specs.Prelude.{◌<◌, ◌≤◌, ◌-◌, ◌^◌, ℕ, IsTrue, List, Option, None, Some, length, option_map, vec_capacity}
use Rattle.net_machine.specs.State.{State}
use Rattle.net_machine.specs.declared.event.Event.{Event}
use Rattle.net_present.specs.Onward.{enabled_now}
use Rattle.net_present.specs.Present.{Present}
use Rattle.net_needs.specs.Staying.{IsCounted}
use Rattle.fabric_events.specs.Fabrics.{present_of}
use Rattle.fabric_events.specs.Fabrics as fabrics
use Rattle.fabric_events.specs.Ready.{IsReady}
use Rattle.fabric_net.specs.Standing.{StandsFor}
use Rattle.fabric_net.specs.declared.net.Net.TheInside.{Inside}
use Rattle.fabric_net.specs.declared.net.Prepared.{Prepared}

pub record NetSeen : Type 0 where
  pub present : Present
  -- the events since the last run began
  pub journal : List Event
  -- the event that can be let happen without memory
  pub prepared : Option Event

abbrev pub event_in : Prepared → Event
event_in made = made.event

abbrev pub view_of : Inside → NetSeen
view_of net = record {
  present = present_of net.fabric;
  journal = net.journal.items;
  prepared = option_map event_in net.prepared;
}

-- the most events of a run
abbrev pub most_steps : ℕ
most_steps = 2 ^ 64 - 2

-- there is memory for the event of a step, and it can be counted
pub record IsMadeFor (net : Inside) (made : Prepared) : Type 0 where
  pub place : length net.journal.items < vec_capacity net.journal
  pub count : net.steps < most_steps
  pub ready : IsTrue (enabled_now (present_of net.fabric) made.event) → IsReady net.fabric made.room made.event

abbrev pub IsArmed : Inside → Option Prepared → Type 0
IsArmed net None = Unit {0}
IsArmed net (Some made) = IsMadeFor net made

-- The net stands for a state, and no count of its present is greater than the number of its steps.
pub record IsSound (net : Inside) : Type 0 where
  pub parts : fabrics.IsSound net.fabric
  pub state : State
  pub stands : StandsFor (present_of net.fabric) state
  pub counted : IsCounted net.steps (present_of net.fabric)
  pub few : net.steps ≤ most_steps
  pub armed : IsArmed net net.prepared
