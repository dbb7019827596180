-- Entries that enter the way of their stream, and those that are lost on it.
use Rattle.std.specs.Prelude.{◌≡◌, ℕ, List, [], ◌∷◌, ◌++◌, Some}
use Rattle.net_machine.specs.declared.event.Event.TheVariants.{Lose}
use Rattle.net_machine.specs.Effects.{after, enters_over}
use Rattle.net_machine.specs.Plans.{first_link, plan_at, stream_from, stream_to}
use Rattle.net_machine.specs.Queues.{back_vc, forward_vc}
use Rattle.net_machine.specs.State.{Entry, State, queue_at}
use Rattle.net_machine.specs.Streams.{loses}
use Rattle.net_ways.specs.Gather.{HasBetween}
use Rattle.net_ways.specs.Hops.{GoesAhead, GoesBack, taken_in}
use Rattle.net_ways.specs.Ways.{HasQueues, IsLedTo, ahead, back, back_way, forward_way}

-- an entry is the last one under way to the consumer of stream s
pub record JoinsAhead (w v : State) (s : ℕ) (e : Entry) : Type 0 where
  pub ahead : ahead v s ≡ ahead w s ++ e ∷ []
  pub back : back v s ≡ back w s

-- an entry is the last one under way to its producer
pub record JoinsBack (w v : State) (s : ℕ) (e : Entry) : Type 0 where
  pub ahead : ahead v s ≡ ahead w s
  pub back : back v s ≡ back w s ++ e ∷ []

-- Samples and commands that enter by the producer's link are under way to the consumer.
abbrev pub EntersAhead : Type 0
EntersAhead = (w : State) (s : ℕ) (e : Entry) → HasQueues w
    → IsLedTo w (plan_at w.plan s).from (plan_at w.plan s).to
    → GoesAhead e.packet.body → e.packet.dst ≡ (plan_at w.plan s).to
    → JoinsAhead w (enters_over (first_link w.tree (plan_at w.plan s).from) forward_vc e.marked e.packet e.tag w) s e

-- Statuses that enter by the consumer's link are under way to the producer.
abbrev pub EntersBack : Type 0
EntersBack = (w : State) (s : ℕ) (e : Entry) → HasQueues w
    → IsLedTo w (plan_at w.plan s).to (plan_at w.plan s).from
    → GoesBack e.packet.body → e.packet.dst ≡ (plan_at w.plan s).from
    → JoinsBack w (enters_over (first_link w.tree (plan_at w.plan s).to) back_vc e.marked e.packet e.tag w) s e

-- the front entry of queue q is lost: its stream counts it, and has the others under way
pub record LostAhead (w : State) (s q : ℕ) (e : Entry) (rest : List Entry) : Type 0 where
  pub lost : after w (Lose q) ≡ taken_in w s q rest (loses e)
  pub ahead : HasBetween (ahead w s) (ahead (after w (Lose q)) s) (e ∷ [])
  pub back : back (after w (Lose q)) s ≡ back w s

pub record LostBack (w : State) (s q : ℕ) (e : Entry) (rest : List Entry) : Type 0 where
  pub lost : after w (Lose q) ≡ taken_in w s q rest (loses e)
  pub ahead : ahead (after w (Lose q)) s ≡ ahead w s
  pub back : HasBetween (back w s) (back (after w (Lose q)) s) (e ∷ [])

-- Samples and commands are lost on their way.
abbrev pub LosesAhead : Type 0
LosesAhead = (w : State) (s q : ℕ) (before behind : List ℕ) (e : Entry) (rest : List Entry) → HasQueues w
    → IsLedTo w (plan_at w.plan s).from (plan_at w.plan s).to
    → stream_to w.plan (plan_at w.plan s).to ≡ Some s
    → queue_at w.queues q ≡ e ∷ rest → forward_way w.tree (plan_at w.plan s) ≡ before ++ q ∷ behind
    → GoesAhead e.packet.body → e.packet.dst ≡ (plan_at w.plan s).to
    → LostAhead w s q e rest

-- Statuses are lost on the way back.
abbrev pub LosesBack : Type 0
LosesBack = (w : State) (s q : ℕ) (before behind : List ℕ) (e : Entry) (rest : List Entry) → HasQueues w
    → IsLedTo w (plan_at w.plan s).to (plan_at w.plan s).from
    → stream_from w.plan (plan_at w.plan s).from ≡ Some s
    → queue_at w.queues q ≡ e ∷ rest → back_way w.tree (plan_at w.plan s) ≡ before ++ q ∷ behind
    → GoesBack e.packet.body → e.packet.dst ≡ (plan_at w.plan s).from
    → LostBack w s q e rest
