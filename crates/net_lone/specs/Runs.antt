-- The journal of first events, and that of a message.
use Rattle.std.specs.Prelude.{◌≡◌, Bool, true, false, List, [], ◌∷◌, None, Some}
use Rattle.std.specs.List.{list_any}
use Rattle.net_machine.specs.declared.event.Event.{Event}
use Rattle.net_machine.specs.declared.event.Event.TheVariants.{Enter, Hop, Seen, Feed, Report, Command, Lose, Reply, Ask}
use Rattle.net_machine.specs.Choice.{chosen}
use Rattle.net_machine.specs.Effects.{after}
use Rattle.net_machine.specs.State.{State}
use Rattle.net_lone.specs.Stages.{Lone, next_event}
use Rattle.net_lone.specs.Lone.{lone_after}

-- each event of a journal is the first of those that are enabled, and none is left in the end
unfoldable pub IsFirst : State → List Event → Type 0
IsFirst w [] = chosen 0 w ≡ None
IsFirst w (e ∷ journal) = (chosen 0 w ≡ Some e) × IsFirst (after w e) journal

-- by these events a message goes on to here
unfoldable pub Goes : Lone → List Event → Lone → Type 0
Goes l [] end = l ≡ end
Goes l (e ∷ journal) end = (next_event l.stage ≡ Some e) × Goes (lone_after l) journal end

-- by these events a message goes on to its end
pub record Ends (l : Lone) (journal : List Event) (end : Lone) : Type 0 where
  pub goes : Goes l journal end
  pub over : next_event end.stage ≡ None

-- an event loses a packet
abbrev pub is_loss : Event → Bool
is_loss (Enter s) = false
is_loss (Hop q) = false
is_loss (Seen s n) = false
is_loss (Feed b i) = false
is_loss (Report s) = false
is_loss (Command s op) = false
is_loss (Lose q) = true
is_loss (Reply x) = false
is_loss (Ask x) = false

-- some event of a journal does
abbrev pub has_loss : List Event → Bool
has_loss journal = list_any is_loss journal

-- a message goes on from here to there, with or without a loss
pub record Comes (a b : Lone) (lost : Bool) : Type 0 where
  pub journal : List Event
  pub goes : Goes a journal b
  pub loss : has_loss journal ≡ lost
