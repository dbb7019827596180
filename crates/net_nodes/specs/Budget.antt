-- How long the last hop of a management packet may grow, and what the packet is when a hop is performed.
use Rattle.std.specs.Prelude.{ℕ, ◌+◌, ◌≤◌, ◌<◌, ◌^◌, List, length}
use Rattle.std.specs.List.{sum_by}
use Rattle.chdr_words.specs.NodeInfo.{FitsInfo}
use Rattle.chdr_words.specs.declared.management.Management.{Management}
use Rattle.chdr_words.specs.declared.management.MgmtOp.{MgmtOp}
use Rattle.net_nodes.specs.Operations.{asked_in}
use Rattle.net_nodes.specs.Perform.{first_hop, last_hop, performed, without_first}
use Rattle.net_nodes.specs.declared.site.Site.{Site}
use Rattle.net_nodes.specs.declared.table.Place.{Place}

-- how many answers hops ask, all together
abbrev pub asked_by : List (List MgmtOp) → ℕ
asked_by hops = sum_by asked_in hops

-- the operations of the last hop, with the answers that all hops ask
abbrev pub budget : Management → ℕ
budget m = length (last_hop m) + asked_by m.hops

-- the packet when a node has performed its first hop
abbrev pub performed_packet : Site → List Place → Management → Management
performed_packet site table m = without_first m (performed site table m).last

-- a node whose information fits its bits, with fewer than 256 ports
pub record FitsSite (site : Site) : Type 0 where
  pub info : FitsInfo site.info
  pub device : site.info.device < 2 ^ 16
  pub arrival : site.arrival < 2 ^ 8
  pub ports : site.ports < 2 ^ 8

-- the packet has a hop besides the last, and room is there for the last hop with the answers of the first
pub record Serves (room : ℕ) (m : Management) : Type 0 where
  pub hops : 2 ≤ length m.hops
  pub answers : length (last_hop m) + asked_in (first_hop m) ≤ room
