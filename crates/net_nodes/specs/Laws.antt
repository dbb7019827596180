-- The laws of nodes, each as a statement on a node and a packet.
use Rattle.std.specs.Prelude.{◌≡◌, ◌==◌, ◌&&◌, ℕ, ◌+◌, ◌^◌, ◌<◌, ◌≤◌, List, length, Some, if◌then◌else◌}
use Rattle.chdr_words.specs.Management.{FitsManagement}
use Rattle.chdr_words.specs.declared.epid.Epid.{Epid}
use Rattle.chdr_words.specs.declared.management.Management.{Management}
use Rattle.net_nodes.specs.Budget.{budget, performed_packet, FitsSite}
use Rattle.net_nodes.specs.Perform.{performed}
use Rattle.net_nodes.specs.Switch.{FitsCrossbar, FitsAdapter, crossbar_site, adapter_site, end_site}
use Rattle.net_nodes.specs.Table.{exit_of, with_exit, has_place, HasEntries}
use Rattle.net_nodes.specs.declared.end_node.EndNode.{EndNode}
use Rattle.net_nodes.specs.declared.site.Site.{Site}
use Rattle.net_nodes.specs.declared.switch.Switch.{Switch}
use Rattle.net_nodes.specs.declared.table.Place.{Place}

-- a table is a finite map: a new entry is found at its EPID, and every other entry stays
abbrev pub TablesAreMaps : List Place → Type 0
TablesAreMaps table =
    (epid other : Epid) (port : ℕ) → exit_of (with_exit table epid port) other ≡ (if other.0 == epid.0 && has_place table epid then Some port else exit_of table other)

-- entries are ports of the node, if those before are and the packet came by one
abbrev pub EntriesArePorts : Site → List Place → Type 0
EntriesArePorts site table =
    (m : Management) (bound : ℕ) → site.arrival < bound → site.ports ≤ bound → HasEntries bound table → HasEntries bound (performed site table m).table

-- the last hop with the answers that are still asked is as long as before
abbrev pub BudgetStays : Site → List Place → Type 0
BudgetStays site table =
    (m : Management) → 2 ≤ length m.hops → budget (performed_packet site table m) ≡ budget m

-- a hop is taken off
abbrev pub HopsFall : Site → List Place → Type 0
HopsFall site table =
    (m : Management) → 2 ≤ length m.hops → length (performed_packet site table m).hops + 1 ≡ length m.hops

-- a packet that fits and whose answers are counted fits when its first hop is performed
abbrev pub PerformedPacketsFit : Site → List Place → Type 0
PerformedPacketsFit site table =
    (m : Management) → FitsSite site → HasEntries (2 ^ 8) table → FitsManagement m → 2 ≤ length m.hops → budget m ≤ 256 → FitsManagement (performed_packet site table m)

-- a crossbar that fits is a site that fits, and so are its entries
abbrev pub CrossbarSitesFit : Switch → Type 0
CrossbarSitesFit switch =
    (arrival : ℕ) → FitsCrossbar switch → arrival < switch.ports → FitsSite (crossbar_site switch arrival) × HasEntries (2 ^ 8) switch.table

-- an adapter too
abbrev pub AdapterSitesFit : Switch → Type 0
AdapterSitesFit switch =
    (arrival : ℕ) → FitsAdapter switch → arrival < switch.ports → FitsSite (adapter_site switch arrival) × HasEntries (2 ^ 8) switch.table

-- an end node whose number and EPID fit is a site that fits
abbrev pub EndSitesFit : EndNode → Type 0
EndSitesFit node = node.instance < 1024 → node.epid.0 < 2 ^ 16 → FitsSite (end_site node)
