-- What each stream of a plan carries where nothing is lost: the plan alone decides it, and no event.
use Rattle.std.specs.Prelude.{ℕ, zero, suc, ◌+◌, ◌%◌, ◌^◌, ◌==◌, Bool, List, [], ◌∷◌, length, if◌then◌else◌}
use Rattle.std.specs.Option.{option_map_or}
use Rattle.block_library.specs.Blocks.{Lists, block_of}
use Rattle.block_library.specs.Memory.{lists}
use Rattle.block_library.specs.Producer.{produced}
use Rattle.chdr_packets.specs.declared.packet.Packet.{Packet}
use Rattle.chdr_words.specs.declared.epid.Epid.{Epid}
use Rattle.net_machine.specs.declared.plan.BlockPlan.{BlockPlan}
use Rattle.net_machine.specs.declared.plan.RunPlan.{RunPlan}
use Rattle.net_machine.specs.declared.plan.StreamPlan.{StreamPlan}
use Rattle.net_machine.specs.Begin.{source_of}
use Rattle.net_machine.specs.Plans.{block_at, is_tx, plan_at, producer_of, stream_into}
use Rattle.net_machine.specs.Streams.{numbered}
use Rattle.std.specs.Prelude.{slice_index_or}

-- packets as a stream carries them, the first of them at this place
abbrev pub numbered_from : StreamPlan → ℕ → List Packet → List Packet
numbered_from stream place [] = []
numbered_from stream place (p ∷ ps) =
    numbered stream ((stream.start + place) % 2 ^ 16) p ∷ numbered_from stream (place + 1) ps

-- an EPID is the second output of a block
abbrev pub is_second : BlockPlan → Epid → Bool
is_second block epid = (slice_index_or block.outs 1 (record { 0 = 0 })).0 == epid.0

-- what goes out at an EPID
abbrev pub given_at : BlockPlan → Epid → Lists → List Packet
given_at block epid given = if is_second block epid then given.second else given.first

-- what a block makes for a stream out of what comes to its inputs
abbrev pub made_for : BlockPlan → StreamPlan → Lists → List Packet
made_for block stream fed =
    if is_tx block.kind then produced (source_of block stream.to)
    else given_at block stream.from (block_of block.kind block.item fed)

-- what stream s carries, through up to k blocks
abbrev pub plain_through : ℕ → RunPlan → ℕ → List Packet
plain_through zero plan s = []
plain_through (suc k) plan s = let stream = plan_at plan s in
    option_map_or (λ b. let block = block_at plan b in
    numbered_from stream 0 (made_for block stream
    (lists (option_map_or (plain_through k plan) (stream_into plan block 0) [])
    (option_map_or (plain_through k plan) (stream_into plan block 1) []))))
    (producer_of plan s) []

-- what stream s carries
abbrev pub plain : RunPlan → ℕ → List Packet
plain plan s = plain_through (length plan.blocks) plan s
