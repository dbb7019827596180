-- A node with what lies at it, as the machine has it.
use Rattle.net_machine.specs.State.{Node}
use Rattle.fabric_nodes.specs.declared.node.Site.{Site}

-- what a node holds
abbrev pub node_of : Site → Node
node_of site = record {
  table = site.node.table;
  pending = site.pending.packets;
  requests = site.requests.packets;
  answers = site.answers.packets;
}
