-- How many streams, blocks, nodes and queues a front has, and which events a choice looks at.
use Rattle.std.specs.Prelude.{ℕ, ◌+◌, ◌*◌, ◌++◌, List}
use Rattle.std.specs.List.{flat_map, range_with_len}
use Rattle.net_machine.specs.declared.event.Event.{Event}
use Rattle.net_machine.specs.declared.event.Event.TheVariants.{Ask, Enter, Hop, Lose, Reply, Report}
use Rattle.net_machine.specs.Choice.{commands_of, feeds_of, for_each}
use Rattle.fabric_events.specs.declared.candidates.Sizes.{Sizes}

-- the events that a choice looks at in a front of these sizes, in order
abbrev pub candidates_in : Sizes → List Event
candidates_in sizes =
    for_each Enter sizes.streams
    ++ (flat_map commands_of (range_with_len 0 sizes.streams)
    ++ (for_each Report sizes.streams
    ++ (flat_map feeds_of (range_with_len 0 sizes.blocks)
    ++ (for_each Reply sizes.nodes
    ++ (for_each Ask sizes.nodes
    ++ (for_each Lose sizes.queues
    ++ for_each Hop sizes.queues))))))

-- how many these are
abbrev pub candidate_count : Sizes → ℕ
candidate_count sizes = 5 * sizes.streams + 2 * sizes.blocks + 2 * sizes.nodes + 2 * sizes.queues

-- the places of the first Command, of the first Report, and of the first Feed
abbrev pub first_order : Sizes → ℕ
first_order sizes = sizes.streams

abbrev pub first_report : Sizes → ℕ
first_report sizes = 4 * sizes.streams

abbrev pub first_feed : Sizes → ℕ
first_feed sizes = 5 * sizes.streams

-- the places of the first Reply and of the first Lose
abbrev pub first_reply : Sizes → ℕ
first_reply sizes = 5 * sizes.streams + 2 * sizes.blocks

abbrev pub first_loss : Sizes → ℕ
first_loss sizes = 5 * sizes.streams + 2 * sizes.blocks + 2 * sizes.nodes
