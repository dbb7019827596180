-- Which events a net can let happen, and which it chooses.
use Rattle.std.specs.Prelude.{◌≡◌, ℕ, ◌+◌, ◌<◌, ◌≤◌, ◌&&◌, Bool, true, false, List, Option, Some, if◌then◌else◌, length, nat_le, nat_lt, slice_get}
use Rattle.net_machine.specs.declared.event.Event.{Event}
use Rattle.net_machine.specs.declared.event.Event.TheVariants as event
use Rattle.net_machine.specs.Choice.{chosen_of, listing, seed_after}
use Rattle.net_present.specs.Kept.{now_at}
use Rattle.net_present.specs.Onward.{enabled_now}
use Rattle.net_present.specs.Present.{Present, front_now}
use Rattle.fabric_lists.specs.Opened.{is_tx_stream}
use Rattle.fabric_events.specs.Sizes.{candidates_in}
use Rattle.fabric_events.specs.declared.candidates.Sizes.{Sizes}

-- the next packet of stream s was offered, if a Tx makes it
abbrev pub is_offered : Present → ℕ → Bool
is_offered p s = if is_tx_stream p.plan s then nat_lt 0 (now_at p.streams s).offered else true

-- n packets of stream s were handed out
abbrev pub is_handed : Present → ℕ → ℕ → Bool
is_handed p s n = nat_le (n + length (now_at p.streams s).waiting) (now_at p.streams s).given

-- an event is enabled, and the packet that it sends was offered, or those that it takes were handed out
unfoldable pub doable_now : Present → Event → Bool
doable_now p (event.Enter s) = enabled_now p (event.Enter s) && is_offered p s
doable_now p (event.Command s op) = enabled_now p (event.Command s op)
doable_now p (event.Report s) = enabled_now p (event.Report s)
doable_now p (event.Seen s n) = enabled_now p (event.Seen s n) && is_handed p s n
doable_now p (event.Feed b i) = enabled_now p (event.Feed b i)
doable_now p (event.Ask x) = enabled_now p (event.Ask x)
doable_now p (event.Reply x) = enabled_now p (event.Reply x)
doable_now p (event.Lose q) = enabled_now p (event.Lose q)
doable_now p (event.Hop q) = enabled_now p (event.Hop q)

-- the events that can happen, in the order of a choice
unfoldable pub doable_list : Present → List Event
doable_list p = listing (doable_now p) (front_now p)

-- the event that a seed chooses, and the seed after that
abbrev pub chosen_now : ℕ → Present → Option Event
chosen_now seed p = chosen_of seed (doable_list p)

abbrev pub seed_now : ℕ → Present → ℕ
seed_now seed p = seed_after seed (doable_list p)

-- how many streams, blocks, nodes and queues a present has
abbrev pub sizes_of : Present → Sizes
sizes_of p = record { streams = length p.streams; blocks = length p.plan.blocks; nodes = length p.nodes; queues = length p.queues }

-- no event can happen at the places of the order from k to before n
abbrev pub IsStill : Present → Sizes → ℕ → ℕ → Type 0
IsStill p sizes k n = (i : ℕ) (e : Event) → k ≤ i → i < n → slice_get (candidates_in sizes) i ≡ Some e → doable_now p e ≡ false
