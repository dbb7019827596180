-- For which states of the machine a present stands.
use Rattle.std.specs.Prelude.{◌≡◌, false, List, [], All}
use Rattle.net_machine.specs.declared.event.Event.{Event}
use Rattle.net_machine.specs.Front.{Queued}
use Rattle.net_machine.specs.State.{Node, State}
use Rattle.net_present.specs.Kept.{IsNow}
use Rattle.net_present.specs.Onward.{enabled_now}
use Rattle.net_present.specs.Present.{Present}
use Rattle.net_lawful.specs.Lawful.{Lawful}

-- A present stands for each lawful state of which it is kept. Whole counts, and what was sent and given, are in
-- the state alone.
pub record StandsFor (p : Present) (w : State) : Type 0 where
  pub lawful : Lawful w
  pub now : IsNow p w

-- all queues are empty
abbrev pub HasNoEntries : Present → Type 0
HasNoEntries p = All (λ (queue : List Queued). queue ≡ []) p.queues

-- nothing is under way, no event is enabled, and no node holds an answer that came to it
pub record IsResting (p : Present) : Type 0 where
  pub empty : HasNoEntries p
  pub still : (e : Event) → enabled_now p e ≡ false
  pub heard : All (λ (n : Node). n.answers ≡ []) p.nodes
