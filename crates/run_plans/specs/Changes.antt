-- What placing a block and connecting two ports make of a layout.
use Rattle.std.specs.Prelude.{[], ◌∷◌, ◌++◌, unwrap_or}
use Rattle.graph_core.specs.declared.place.PortAt.{PortAt}
use Rattle.net_machine.specs.Plans.{no_epid}
use Rattle.net_machine.specs.declared.plan.StreamPlan.{StreamPlan}
use Rattle.run_plans.specs.Layouts.{in_at, out_at}
use Rattle.run_plans.specs.declared.connect.Terms.{Terms}
use Rattle.run_plans.specs.declared.layout.Layout.{Layout}
use Rattle.run_plans.specs.declared.layout.PlacedBlock.{PlacedBlock}

-- the layout with one more block
abbrev pub with_block : Layout → PlacedBlock → Layout
with_block layout block = record layout { blocks = layout.blocks ++ block ∷ [] }

-- the stream from one port to the other
abbrev pub stream_between : Layout → PortAt → PortAt → Terms → StreamPlan
stream_between layout from to terms = record {
  from = unwrap_or (out_at layout from.block from.port) no_epid;
  to = unwrap_or (in_at layout to.block to.port) no_epid;
  flow = terms.flow;
  start = terms.start;
  policy = terms.policy;
}

-- the layout with one more stream
abbrev pub with_stream : Layout → PortAt → PortAt → Terms → Layout
with_stream layout from to terms =
    record layout { streams = layout.streams ++ stream_between layout from to terms ∷ [] }
