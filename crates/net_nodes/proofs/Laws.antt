-- The laws of specs/Laws, with their proofs, for the proofs of other crates.
use Rattle.std.proofs.Common.{List}
use Rattle.net_nodes.specs.Laws as law
use Rattle.net_nodes.specs.declared.end_node.EndNode.{EndNode}
use Rattle.net_nodes.specs.declared.site.Site.{Site}
use Rattle.net_nodes.specs.declared.switch.Switch.{Switch}
use Rattle.net_nodes.specs.declared.table.Place.{Place}
use Rattle.net_nodes.proofs.BudgetLemmas as budgets
use Rattle.net_nodes.proofs.EntryLemmas.{entries_performed}
use Rattle.net_nodes.proofs.SiteLemmas.{crossbar_fits, adapter_fits, end_node_fits}
use Rattle.net_nodes.proofs.TableLemmas.{exit_of-with_exit}

pub tables_are_maps : (table : List Place) → law.TablesAreMaps table
tables_are_maps table epid other port = exit_of-with_exit table epid other port

module _ (site : Site) (table : List Place) where
  pub entries_are_ports : law.EntriesArePorts site table
  entries_are_ports m bound a p e = entries_performed site table m bound a p e

  pub budget_stays : law.BudgetStays site table
  budget_stays m two = budgets.budget_stays site table m two

  pub hops_fall : law.HopsFall site table
  hops_fall m two = budgets.hops_fall site table m two

  pub performed_packets_fit : law.PerformedPacketsFit site table
  performed_packets_fit m fits e f two within = budgets.performed_fits site table m two fits e f within

pub crossbar_sites_fit : (switch : Switch) → law.CrossbarSitesFit switch
crossbar_sites_fit switch arrival f a = crossbar_fits switch arrival f a

pub adapter_sites_fit : (switch : Switch) → law.AdapterSitesFit switch
adapter_sites_fit switch arrival f a = adapter_fits switch arrival f a

pub end_sites_fit : (node : EndNode) → law.EndSitesFit node
end_sites_fit node i e = end_node_fits node i e
