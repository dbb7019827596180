-- What the answer to a probe tells is what is behind the port.
use Rattle.std.proofs.Common.{◌≡◌, ℕ, ◌+◌, ◌*◌, ◌/◌, ◌%◌, ◌^◌, ◌<◌, ◌≤◌, [], ◌∷◌, refl, ◌∙◌, ap, arith, length}
use Rattle.std.specs.Prelude.{Option, Some, None, unwrap_or}
use Rattle.std.specs.Option.{option_and_then, option_map_or}
use Rattle.chdr_words.specs.Field.{field}
use Rattle.chdr_words.specs.NodeInfo.{info_of, info_payload, node_kind_number, node_kind_of}
use Rattle.chdr_words.specs.Operation.{operation_of}
use Rattle.chdr_words.specs.declared.epid.Epid.{Epid}
use Rattle.chdr_words.specs.declared.node_info.NodeInfo.{NodeInfo}
use Rattle.chdr_words.specs.declared.node_info.NodeKind.TheVariants as kinds
use Rattle.net_nodes.specs.Perform.{info_answer}
use Rattle.net_nodes.specs.Switch.{end_site}
use Rattle.net_topology.specs.Links.{end_of, end_port, start_of, start_port}
use Rattle.net_topology.specs.Tree.{IsTree, epid_at, epid_of, ports_of}
use Rattle.net_topology.specs.declared.plan.NodePlan.{NodePlan}
use Rattle.net_topology.specs.declared.plan.NodePlan.TheVariants.{Crossbar, Adapter, Host, Endpoint}
use Rattle.net_topology.specs.declared.plan.Plan.{Plan}
use Rattle.net_topology.proofs.Laws.{links_join_ports}
use Rattle.net_machine.specs.Nodes.{planned, site_by}
use Rattle.net_machine.specs.Plans.{no_epid}
use Rattle.net_lawful.specs.Messages.{FitsTree}
use Rattle.net_walks.specs.Walks.{collector, information, inquiry, returner}
use Rattle.net_walks.proofs.Laws.{ports_are_few}
use Rattle.topology_walk.specs.declared.probes.Behind.TheVariants.{Node, Bare}
use Rattle.topology_walk.specs.Answers.{behind_told, node_told, op_told}
use Rattle.topology_walk.specs.Nodes.{found_over, kind_of}

-- ---- the information that is spelled is read

abbrev payload : ℕ → ℕ → ℕ → ℕ → ℕ
payload e n k d = e * 2 ^ 30 + n * 2 ^ 20 + k * 2 ^ 16 + d

extended-read : (e n k d : ℕ) → e < 2 ^ 18 → n < 2 ^ 10 → k < 2 ^ 4 → d < 2 ^ 16 → field (payload e n k d) 47 30 ≡ e
extended-read e n k d le ln lk ld = omega arith

instance-read : (e n k d : ℕ) → e < 2 ^ 18 → n < 2 ^ 10 → k < 2 ^ 4 → d < 2 ^ 16 → field (payload e n k d) 29 20 ≡ n
instance-read e n k d le ln lk ld = omega arith

kind-read : (e n k d : ℕ) → e < 2 ^ 18 → n < 2 ^ 10 → k < 2 ^ 4 → d < 2 ^ 16 → field (payload e n k d) 19 16 ≡ k
kind-read e n k d le ln lk ld = omega arith

device-read : (e n k d : ℕ) → e < 2 ^ 18 → n < 2 ^ 10 → k < 2 ^ 4 → d < 2 ^ 16 → field (payload e n k d) 15 0 ≡ d
device-read e n k d le ln lk ld = omega arith

info-read : (info : NodeInfo) → info.extended < 2 ^ 18 → info.instance < 2 ^ 10 → node_kind_number info.kind < 2 ^ 4 → info.device < 2 ^ 16 →
    node_kind_of (node_kind_number info.kind) ≡ info.kind → info_of (info_payload info) ≡ info
info-read info le ln lk ld same =
    let k = node_kind_number info.kind in
    let e = extended-read info.extended info.instance k info.device le ln lk ld in
    let n = instance-read info.extended info.instance k info.device le ln lk ld in
    let kind = ap node_kind_of (kind-read info.extended info.instance k info.device le ln lk ld) ∙ same in
    let d = device-read info.extended info.instance k info.device le ln lk ld in
    λ i. record { extended = e i; instance = n i; kind = kind i; device = d i }

told : (info : NodeInfo) (node port : ℕ) → info_of (info_payload info) ≡ info → op_told (operation_of (info_answer (record { info = info; ports = 0; linked = 0; arrival = 0 }))) node port ≡ Node (node_told info.kind info node port)
told info node port read = ap (λ (it : NodeInfo). Node (node_told it.kind it node port)) read

-- ---- by the sort of node

-- what is planned at a node that tells of itself
record FitsTold (o : Option NodePlan) (x arrival : ℕ) : Type 0 where
  few : x < 256
  by : arrival < option_map_or ports_of o 0
  ports : option_map_or ports_of o 0 ≤ 32
  epid : (unwrap_or (option_and_then epid_of o) no_epid).0 < 2 ^ 16

node-tells : (tree : Plan) (o : Option NodePlan) (x arrival node port : ℕ) → FitsTold o x arrival →
    op_told (operation_of (info_answer (option_map_or (site_by tree x arrival) o (end_site (record { instance = x; epid = no_epid }))))) node port
    ≡ Node (record {
      instance = x;
      kind = option_map_or kind_of o (kinds.Other 0);
      ports = option_map_or ports_of o 0;
      epid = unwrap_or (option_and_then epid_of o) no_epid;
      parent = node;
      parent_port = port;
      port = arrival;
    })
node-tells tree None x arrival node port fits = let none = fits.by in absurd (omega arith)
node-tells tree (Some (Crossbar ports)) x arrival node port fits =
    let number = fits.few in
    let lt = fits.by in
    let few = fits.ports in
    let info : NodeInfo = record { device = 1; kind = kinds.Crossbar; instance = x; extended = ports + 256 * arrival } in
    let read = info-read info (omega arith) (omega arith) (omega arith) (omega arith) refl in
    let many : (ports + 256 * arrival) % 256 ≡ ports = omega arith in
    let by : (ports + 256 * arrival) / 256 % 256 ≡ arrival = omega arith in
    told info node port read
    ∙ (λ i. Node (record { instance = x; kind = kinds.Crossbar; ports = many i; epid = no_epid; parent = node; parent_port = port; port = by i }))
node-tells tree (Some Adapter) x arrival node port fits =
    let number = fits.few in
    let lt : arrival < 2 = fits.by in
    let info : NodeInfo = record { device = 1; kind = kinds.Transport; instance = x; extended = 2 + 256 * arrival } in
    let read = info-read info (omega arith) (omega arith) (omega arith) (omega arith) refl in
    let many : (2 + 256 * arrival) % 256 ≡ 2 = omega arith in
    let by : (2 + 256 * arrival) / 256 % 256 ≡ arrival = omega arith in
    told info node port read
    ∙ (λ i. Node (record { instance = x; kind = kinds.Transport; ports = many i; epid = no_epid; parent = node; parent_port = port; port = by i }))
node-tells tree (Some (Host own)) x arrival node port fits =
    let number = fits.few in
    let lt : arrival < 1 = fits.by in
    let short : own.0 < 2 ^ 16 = fits.epid in
    let info : NodeInfo = record { device = 1; kind = kinds.Endpoint; instance = x; extended = own.0 } in
    let read = info-read info (omega arith) (omega arith) (omega arith) (omega arith) refl in
    let epid : own.0 % 65536 ≡ own.0 = omega arith in
    let by : 0 ≡ arrival = omega arith in
    told info node port read
    ∙ (λ i. Node (record { instance = x; kind = kinds.Endpoint; ports = 1; epid = record { 0 = epid i }; parent = node; parent_port = port; port = by i }))
node-tells tree (Some (Endpoint own bank)) x arrival node port fits =
    let number = fits.few in
    let lt : arrival < 1 = fits.by in
    let short : own.0 < 2 ^ 16 = fits.epid in
    let info : NodeInfo = record { device = 1; kind = kinds.Endpoint; instance = x; extended = own.0 } in
    let read = info-read info (omega arith) (omega arith) (omega arith) (omega arith) refl in
    let epid : own.0 % 65536 ≡ own.0 = omega arith in
    let by : 0 ≡ arrival = omega arith in
    told info node port read
    ∙ (λ i. Node (record { instance = x; kind = kinds.Endpoint; ports = 1; epid = record { 0 = epid i }; parent = node; parent_port = port; port = by i }))

-- ---- the node behind a link

short-epid : (tree : Plan) → FitsTree tree → (x : ℕ) → (unwrap_or (epid_at tree.nodes x) no_epid).0 < 2 ^ 16
short-epid tree fits x = by_epid (epid_at tree.nodes x) refl
  where
    by_epid : (o : Option Epid) → epid_at tree.nodes x ≡ o → (unwrap_or o no_epid).0 < 2 ^ 16
    by_epid None is = omega arith
    by_epid (Some epid) is = fits.epids x epid is

pub node-behind : (tree : Plan) → IsTree tree → FitsTree tree → (src : Epid) (d : ℕ) → d < 2 * length tree.links →
    behind_told (Some (returner src (information tree d ∷ []))) (start_of tree.links d) (start_port tree.links d) ≡ Node (found_over tree d)
node-behind tree is fits src d lt =
    let x = end_of tree.links d in
    let joins = links_join_ports tree is d lt in
    let few = is.nodes.few in
    let limit = fits.plan.limit in
    let there : x < length tree.nodes = joins.1 in
    node-tells tree (planned tree x) x (end_port tree.links d) (start_of tree.links d) (start_port tree.links d) (record {
      few = omega (arith, there, few, limit);
      by = joins.3;
      ports = ports_are_few tree x fits.plan;
      epid = short-epid tree fits x;
    })

pub bare-behind : (src : Epid) (node port : ℕ) → behind_told (Some (returner src (inquiry ∷ collector ∷ []))) node port ≡ Bare
bare-behind src node port = refl
