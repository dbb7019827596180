-- Laws of what a plan tells of hosts, of ports, and of the port of arrival.
use Rattle.std.proofs.Common.{◌≡◌, ℕ, ◌<◌, ◌≤◌, Bool, true, false, List, [], ◌∷◌, refl, arith, zero, suc}
use Rattle.std.specs.Prelude.{Option, Some, None, All, slice_get, unwrap_or}
use Rattle.std.specs.Option.{option_and_then, option_map_or}
use Rattle.net_topology.specs.Leads.{has_table}
use Rattle.net_topology.specs.Links.{end_of, end_port}
use Rattle.net_topology.specs.Tree.{FitsNode, epid_of, port_count, ports_of}
use Rattle.net_topology.specs.declared.plan.NodePlan.{NodePlan}
use Rattle.net_topology.specs.declared.plan.NodePlan.TheVariants.{Crossbar, Adapter, Host, Endpoint}
use Rattle.net_topology.specs.declared.plan.Plan.{Plan}
use Rattle.net_topology.proofs.Laws.{links_join_ports}
use Rattle.net_machine.specs.Nodes.{is_host, is_switch, planned, site_by}
use Rattle.net_machine.specs.Plans.{no_epid}
use Rattle.net_walks.specs.Nodes.{HostsHaveEpids, HostsHaveNoTable, HostsHaveSome, PortsAreFew, SitesTellArrivals}

-- ---- hosts

pub hosts-epids : HostsHaveEpids
hosts-epids tree x is = by_node (planned tree x) is
  where
    by_node : (o : Option NodePlan) → option_map_or is_host o false ≡ true → option_and_then epid_of o ≡ Some (unwrap_or (option_and_then epid_of o) no_epid)
    by_node None h = let z : ◌≡◌ {A = Bool} false true = h in absurd cc
    by_node (Some (Crossbar ports)) h = let z : ◌≡◌ {A = Bool} false true = h in absurd cc
    by_node (Some Adapter) h = let z : ◌≡◌ {A = Bool} false true = h in absurd cc
    by_node (Some (Host own)) h = refl
    by_node (Some (Endpoint own bank)) h = let z : ◌≡◌ {A = Bool} false true = h in absurd cc

pub hosts-some : HostsHaveSome
hosts-some tree x fits is = by_list tree.nodes x fits.nodes is
  where
    by_list : (nodes : List NodePlan) (y : ℕ) → All FitsNode nodes → option_map_or is_host (slice_get nodes y) false ≡ true →
        0 < (unwrap_or (option_and_then epid_of (slice_get nodes y)) no_epid).0
    by_list [] y all h = let z : ◌≡◌ {A = Bool} false true = h in absurd cc
    by_list (Crossbar ports ∷ nodes) zero all h = let z : ◌≡◌ {A = Bool} false true = h in absurd cc
    by_list (Adapter ∷ nodes) zero all h = let z : ◌≡◌ {A = Bool} false true = h in absurd cc
    by_list (Host own ∷ nodes) zero all h = all zero (Host own) (omega arith)
    by_list (Endpoint own bank ∷ nodes) zero all h = let z : ◌≡◌ {A = Bool} false true = h in absurd cc
    by_list (node ∷ nodes) (suc y) all h = by_list nodes y (λ i d lt. all (suc i) d (omega (arith, lt))) h

pub hosts-end : HostsHaveNoTable
hosts-end tree x is = by_node (planned tree x) is
  where
    by_node : (o : Option NodePlan) → option_map_or is_host o false ≡ true → option_map_or has_table o false ≡ false
    by_node None h = refl
    by_node (Some (Crossbar ports)) h = let z : ◌≡◌ {A = Bool} false true = h in absurd cc
    by_node (Some Adapter) h = let z : ◌≡◌ {A = Bool} false true = h in absurd cc
    by_node (Some (Host own)) h = refl
    by_node (Some (Endpoint own bank)) h = refl

-- ---- ports

-- a node without a table has one port at most
pub one-port : (tree : Plan) (z port : ℕ) → is_switch tree z ≡ false → port < port_count tree.nodes z → port ≡ 0
one-port tree z port is lt = by_node (planned tree z) is lt
  where
    by_node : (o : Option NodePlan) → option_map_or has_table o false ≡ false → port < option_map_or ports_of o 0 → port ≡ 0
    by_node None h l = omega (arith, l)
    by_node (Some (Crossbar ports)) h l = let z : ◌≡◌ {A = Bool} true false = h in absurd cc
    by_node (Some Adapter) h l = let z : ◌≡◌ {A = Bool} true false = h in absurd cc
    by_node (Some (Host own)) h l = omega (arith, l)
    by_node (Some (Endpoint own bank)) h l = omega (arith, l)

pub ports-few : PortsAreFew
ports-few tree x fits = by_list tree.nodes x fits.nodes
  where
    by_list : (nodes : List NodePlan) (y : ℕ) → All FitsNode nodes → option_map_or ports_of (slice_get nodes y) 0 ≤ 32
    by_list [] y all = omega arith
    by_list (Crossbar ports ∷ nodes) zero all = (all zero (Crossbar ports) (omega arith)).1
    by_list (Adapter ∷ nodes) zero all = omega arith
    by_list (Host epid ∷ nodes) zero all = omega arith
    by_list (Endpoint epid bank ∷ nodes) zero all = omega arith
    by_list (node ∷ nodes) (suc y) all = by_list nodes y (λ i d lt. all (suc i) d (omega (arith, lt)))

-- ---- the port of arrival

pub arrivals : SitesTellArrivals
arrivals tree d is lt = by_node (planned tree x) (links_join_ports tree is d lt).3
  where
    x : ℕ
    x = end_of tree.links d

    port : ℕ
    port = end_port tree.links d

    by_node : (o : Option NodePlan) → port < option_map_or ports_of o 0 → (option_map_or (site_by tree x port) o (site_by tree x port (Host no_epid))).arrival ≡ port
    by_node None h = absurd (omega (arith, h))
    by_node (Some (Crossbar ports)) h = refl
    by_node (Some Adapter) h = refl
    by_node (Some (Host epid)) h = omega (arith, h)
    by_node (Some (Endpoint epid bank)) h = omega (arith, h)
