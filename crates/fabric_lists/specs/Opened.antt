-- What is made of a plan as a run of it begins, and which of its streams a Tx fills.
use Rattle.std.specs.Prelude.{ℕ, ◌&&◌, Bool, false, List, [], length, map, nat_lt, not}
use Rattle.std.specs.List.{range_with_len}
use Rattle.std.specs.Option.{option_map_or}
use Rattle.block_library.specs.Lines.{empty_line}
use Rattle.block_library.specs.Memory.{kept_of, lists}
use Rattle.net_machine.specs.Begin.{opened}
use Rattle.net_machine.specs.Plans.{block_at, is_rx, is_tx, producer_of}
use Rattle.net_machine.specs.declared.plan.BlockPlan.{BlockPlan}
use Rattle.net_machine.specs.declared.plan.RunPlan.{RunPlan}
use Rattle.net_machine.specs.declared.plan.StreamPlan.{StreamPlan}
use Rattle.net_present.specs.Kept.{stream_now}
use Rattle.net_present.specs.Present.{BlockNow, StreamNow}

-- a Tx makes the packets of stream s
abbrev pub is_tx_stream : RunPlan → ℕ → Bool
is_tx_stream plan s = option_map_or (λ b. is_tx (block_at plan b).kind) (producer_of plan s) false

-- which streams of a plan a Tx fills
abbrev pub txs_in : RunPlan → List Bool
txs_in plan = map (is_tx_stream plan) (range_with_len 0 (length plan.streams))

-- what is kept of a stream as it begins: none of its packets was offered
abbrev pub opened_now : RunPlan → StreamPlan → StreamNow
opened_now plan stream = stream_now 0 0 (opened plan stream)

-- what is kept of block b, to which nothing was fed
abbrev pub unfed : RunPlan → ℕ → BlockNow
unfed plan b = record {
  kept = kept_of (block_at plan b).kind (block_at plan b).item (lists [] []);
  line = empty_line b;
}

-- packets are fed to a block in the network: it is no Rx, and has an input
abbrev pub is_fed : BlockPlan → Bool
is_fed block = not (is_rx block.kind) && nat_lt 0 (length block.ins)

-- which blocks of a plan are fed
abbrev pub feeding_in : RunPlan → List Bool
feeding_in plan = map is_fed plan.blocks
