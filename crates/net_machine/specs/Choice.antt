-- Which event is chosen, and the journal of one thread.
use Rattle.std.specs.Prelude.{◌≡◌, ℕ, ◌==◌, ◌&&◌, Bool, List, [], ◌∷◌, ◌++◌, length, map, filter, Option, None, Some, slice_get, if◌then◌else◌}
use Rattle.std.specs.List.{find, flat_map, range_with_len}
use Rattle.chdr_words.specs.declared.command.CmdOp.TheVariants.{Init, Ping, Resync}
use Rattle.net_machine.specs.declared.event.Event.{Event}
use Rattle.net_machine.specs.declared.event.Event.TheVariants.{Enter, Hop, Seen, Feed, Report, Command, Lose, Reply, Ask}
use Rattle.net_machine.specs.Conditions.{enabled, ends_at_rx, has_untaken}
use Rattle.net_machine.specs.Effects.{after}
use Rattle.net_machine.specs.Front.{Front, front}
use Rattle.net_machine.specs.Seeds.{next_seed, place_in}
use Rattle.net_machine.specs.State.{State, stream_at}

-- an event for each number below n
abbrev pub for_each : (ℕ → Event) → ℕ → List Event
for_each event n = map event (range_with_len 0 n)

-- the commands that a stream may send
abbrev pub commands_of : ℕ → List Event
commands_of s = Command s Init ∷ Command s Ping ∷ Command s Resync ∷ []

-- the feeds of a block; no block has more inputs than two
abbrev pub feeds_of : ℕ → List Event
feeds_of b = Feed b 0 ∷ Feed b 1 ∷ []

-- the events that a choice looks at, in order
abbrev pub candidates : Front → List Event
candidates f =
    for_each Enter (length f.streams)
    ++ (flat_map commands_of (range_with_len 0 (length f.streams))
    ++ (for_each Report (length f.streams)
    ++ (flat_map feeds_of (range_with_len 0 (length f.plan.blocks))
    ++ (for_each Reply (length f.nodes)
    ++ (for_each Ask (length f.nodes)
    ++ (for_each Lose (length f.queues)
    ++ for_each Hop (length f.queues)))))))

-- those that pass a test
abbrev pub listing : (Event → Bool) → Front → List Event
listing test f = filter test (candidates f)

-- what a seed chooses of events: with 0 the first
abbrev pub chosen_of : ℕ → List Event → Option Event
chosen_of seed events =
    if seed == 0 then slice_get events 0 else slice_get events (place_in (length events) (next_seed seed))

-- the seed after a choice of events; without an event it stays
abbrev pub seed_after : ℕ → List Event → ℕ
seed_after seed [] = seed
seed_after seed (e ∷ es) = next_seed seed

-- the enabled events, but for those of taking
unfoldable pub enabled_list : State → List Event
enabled_list w = listing (enabled w) (front w)

-- the event that a seed chooses
abbrev pub chosen : ℕ → State → Option Event
chosen seed w = chosen_of seed (enabled_list w)

-- a stream to an Rx has packets that aren't taken
abbrev pub has_unseen : State → ℕ → Bool
has_unseen w s = ends_at_rx w.plan s && has_untaken (front w) s

-- all that was given on stream s is taken
abbrev pub sees_all : State → ℕ → Event
sees_all w s = Seen s (length (stream_at w s).given)

-- the first stream to an Rx that has packets that aren't taken
abbrev pub unseen_of : State → Option ℕ
unseen_of w = find (has_unseen w) (range_with_len 0 (length w.streams))

-- what one thread does next: each consumer takes all that it has, and then the choice decides
abbrev pub next_by : ℕ → State → Option ℕ → Option Event
next_by seed w None = chosen seed w
next_by seed w (Some s) = Some (sees_all w s)

-- the seed after that; taking leaves it
abbrev pub seed_by : ℕ → State → Option ℕ → ℕ
seed_by seed w None = seed_after seed (enabled_list w)
seed_by seed w (Some s) = seed

unfoldable pub next_of : ℕ → State → Option Event
next_of seed w = next_by seed w (unseen_of w)

unfoldable pub seed_of : ℕ → State → ℕ
seed_of seed w = seed_by seed w (unseen_of w)

-- a journal is the one that a thread takes with a seed, to its end
unfoldable pub IsChosen : ℕ → State → List Event → Type 0
IsChosen seed w [] = next_of seed w ≡ None
IsChosen seed w (e ∷ journal) = (next_of seed w ≡ Some e) × IsChosen (seed_of seed w) (after w e) journal
