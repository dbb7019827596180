-- The plan of a run that a layout and the values of a commit make.
use Rattle.std.specs.Prelude.{ℕ, ◌==◌, List, length, map, unwrap_or, if◌then◌else◌}
use Rattle.std.specs.List.{range_with_len}
use Rattle.block_library.specs.Blocks.{inputs}
use Rattle.block_library.specs.declared.kind.BlockKind.{BlockKind}
use Rattle.graph_core.specs.Pairs.{Pair, value_of}
use Rattle.graph_core.specs.declared.place.Prop.{Prop}
use Rattle.graph_core.specs.declared.place.Prop.TheVariants.{Item, Spp}
use Rattle.graph_core.specs.declared.place.PropAt.{PropAt}
use Rattle.graph_core.specs.declared.place.Side.{Side}
use Rattle.graph_core.specs.declared.place.Side.TheVariants.{Into, Out}
use Rattle.net_machine.specs.declared.plan.BlockPlan.{BlockPlan}
use Rattle.net_machine.specs.declared.plan.RunPlan.{RunPlan}
use Rattle.net_faults.specs.declared.fault.Fault.{Fault}
use Rattle.run_plans.specs.Layouts.{placed_at}
use Rattle.run_plans.specs.declared.layout.Layout.{Layout}
use Rattle.run_plans.specs.declared.layout.PlacedBlock.{PlacedBlock}

-- the side of a block's first port: inputs come before outputs
abbrev pub first_side : BlockKind → Side
first_side kind = if inputs kind == 0 then Out else Into

-- a property of the first port of block b
abbrev pub first_property : ℕ → BlockKind → Prop → PropAt
first_property b kind prop = record { block = b; side = first_side kind; port = 0; prop = prop }

-- the value that the first port of block b has of a property
abbrev pub first_value : List Pair → ℕ → BlockKind → Prop → ℕ
first_value committed b kind prop = unwrap_or (value_of committed (first_property b kind prop)) 0

-- block b as it was placed, with the form of its packets
abbrev pub planned_block : List Pair → ℕ → PlacedBlock → BlockPlan
planned_block committed b block = record {
  kind = block.kind;
  ins = block.ins;
  outs = block.outs;
  packets = block.packets;
  spp = first_value committed b block.kind Spp;
  item = first_value committed b block.kind Item;
  time = block.time;
}

-- block b of a layout
abbrev pub planned_at : Layout → List Pair → ℕ → BlockPlan
planned_at layout committed b = planned_block committed b (placed_at layout b)

-- the run of the layout's streams and blocks, which loses these packets
abbrev pub plan_of : Layout → List Pair → List Fault → RunPlan
plan_of layout committed faults = record {
  streams = layout.streams;
  blocks = map (planned_at layout committed) (range_with_len 0 (length layout.blocks));
  faults = faults;
}
