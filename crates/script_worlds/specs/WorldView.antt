-- What contracts see of a world, read from its fields, and what holds of them.
use Rattle.std.specs.Prelude.{◌≡◌, Bool, List, [], Option, None, Some}
use Rattle.fabric_events.specs.Begun.{built_now}
use Rattle.fabric_net.specs.NetView.{NetSeen}
use Rattle.block_registers.specs.Registers.{Registers}
use Rattle.fabric_net.specs.Standing.{StandsFor}
use Rattle.found_nodes.specs.Found.{AreFound}
use Rattle.host_talk.specs.Settled.{IsSettledNow}
use Rattle.net_machine.specs.Begin.{built}
use Rattle.net_machine.specs.State.{Node}
use Rattle.net_topology.specs.declared.plan.Plan.{Plan}
use Rattle.run_plans.specs.Layouts.{IsLayout, StandIn}
use Rattle.run_plans.specs.declared.layout.Layout.{Layout}
use Rattle.script_worlds.specs.Worlds.{Setup}
use Rattle.script_worlds.specs.declared.world.World.TheInside.{Inside}
use Rattle.walk_books.specs.declared.found.Found.{Found}

pub record WorldSeen : Type 0 where
  pub setup : Setup
  -- the net of the network, unless it was taken out
  pub net : Option NetSeen

abbrev pub view_of : Inside → WorldSeen
view_of world = record {
  setup = record { tree = world.topology; graph = world.graph; layout = world.layout; found = world.found };
  net = world.net;
}

-- a net as it is built, with routed or empty tables
abbrev pub new_net : Plan → Bool → NetSeen
new_net tree routed = record { present = built_now tree routed; journal = []; prepared = None }

-- what the nodes of the net hold
abbrev pub nodes_in : Option NetSeen → List Node
nodes_in None = []
nodes_in (Some net) = net.present.nodes

-- the blocks stand at nodes of the network
abbrev pub StandsOn : Option Plan → Layout → Type 0
StandsOn None layout = Unit {0}
StandsOn (Some tree) layout = StandIn tree layout

-- the net is one of the tree, and settled: nothing is under way in it, and a host may ask in it
pub record IsReady (tree : Plan) (net : NetSeen) : Type 0 where
  pub tree_is : net.present.tree ≡ tree
  pub settled : IsSettledNow net.present

abbrev pub AreReady : Option Plan → Option NetSeen → Type 0
AreReady tree None = Unit {0}
AreReady None (Some net) = ⊥
AreReady (Some tree) (Some net) = IsReady tree net

-- what was found are nodes of the network
abbrev pub AreFoundIn : Option Plan → Option Found → Type 0
AreFoundIn None found = Unit {0}
AreFoundIn (Some tree) None = Unit {0}
AreFoundIn (Some tree) (Some found) = AreFound tree found.nodes

pub record IsSound (world : Inside) : Type 0 where
  pub layout : IsLayout world.graph.diagram world.layout
  pub stands : StandsOn world.topology world.layout
  pub ready : AreReady world.topology world.net
  pub found : AreFoundIn world.topology world.found

-- a net as it is built stands for the network as it is built, over any banks
abbrev pub BuiltStands : Plan → Bool → Type 0
BuiltStands tree routed = (banks : List (Option Registers)) → StandsFor (built_now tree routed) (built tree routed banks)
