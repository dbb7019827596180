-- The queues of a network as contracts see them, read from the fields.
use Rattle.std.specs.Prelude.{◌≡◌, ℕ, Bool, true, false, List, [], ◌∷◌, All, map, not}
use Rattle.std.specs.List.{list_all}
use Rattle.net_machine.specs.Conditions.{can_lose, is_of}
use Rattle.net_machine.specs.Front.{Queued}
use Rattle.net_machine.specs.declared.plan.StreamPlan.{StreamPlan}
use Rattle.net_present.specs.Onward.{entries_at}
use Rattle.fabric_parts.specs.Queues.{QueueSeen}
use Rattle.fabric_lists.specs.declared.queues.Queues.TheInside.{Inside}

-- the entries of each queue, the front one first, and how many each holds at most
pub record QueuesSeen : Type 0 where
  pub entries : List (List Queued)
  pub room : ℕ

abbrev pub entries_of : QueueSeen → List Queued
entries_of q = q.entries

abbrev pub view_of : Inside → QueuesSeen
view_of qs = record { entries = map entries_of qs.queues.items; room = qs.room }

-- there is an entry
abbrev pub is_held : List Queued → Bool
is_held [] = false
is_held (e ∷ rest) = true

-- queue q holds an entry
abbrev pub holds : List (List Queued) → ℕ → Bool
holds queues q = is_held (entries_at queues q)

-- the front entry of queue q is marked
abbrev pub loses : List (List Queued) → ℕ → Bool
loses queues q = can_lose (entries_at queues q)

-- no entry of a stream is among these
abbrev pub has_none : StreamPlan → List Queued → Bool
has_none plan es = list_all (λ (e : Queued). not (is_of plan e.packet.dst e.packet.body)) es

-- Each queue has this room. Exactly the flags of the queues that hold an entry are set, and of those whose front entry is
-- marked.
pub record IsSound (qs : Inside) : Type 0 where
  pub rooms : All (λ (q : QueueSeen). q.room ≡ qs.room) qs.queues.items
  pub held : qs.held ≡ map is_held (map entries_of qs.queues.items)
  pub marked : qs.marked ≡ map can_lose (map entries_of qs.queues.items)
