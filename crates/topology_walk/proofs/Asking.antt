-- A probe may be asked.
use Rattle.std.proofs.Common.{◌≡◌, ℕ, ◌+◌, ◌-◌, ◌*◌, ◌<◌, ◌≤◌, List, [], ◌∷◌, ◌++◌, length, map, refl, sym, ◌∙◌, ap, subst, arith, drop, get_or}
use Rattle.std.specs.Prelude.{Option, Some, None, IsSome, All}
use Rattle.std.specs.List.{sum_by}
use Rattle.std.proofs.lemmas.Bool.{false≢true}
use Rattle.std.proofs.lemmas.List.{append_assoc, get_or_at, length-append, length-map}
use Rattle.std.proofs.lemmas.List.Elements.{All-cons, All-nil}
use Rattle.std.proofs.lemmas.List.Sums.{sum_by-cons}
use Rattle.chdr_packets.specs.Fits.{FitsPacket}
use Rattle.chdr_packets.specs.declared.packet.Packet.{Packet}
use Rattle.chdr_words.specs.Management.{FitsHop, FitsOp}
use Rattle.chdr_words.specs.declared.epid.Epid.{Epid}
use Rattle.chdr_words.specs.declared.management.MgmtOp.{MgmtOp}
use Rattle.net_nodes.specs.Operations.{asked_in}
use Rattle.net_nodes.specs.Perform.{last_hop}
use Rattle.net_topology.specs.Links.{end_of, link_at, start_port}
use Rattle.net_topology.specs.Tree.{IsTree}
use Rattle.net_topology.specs.declared.plan.Plan.{Plan}
use Rattle.net_machine.specs.State.{Node, State, node_in}
use Rattle.net_present.specs.Present.{Present}
use Rattle.net_lawful.specs.Messages.{FitsTree}
use Rattle.net_lone.proofs.Laws.{no_request_waits}
use Rattle.net_walks.specs.Walks.{collector, inquiry, onward, walk}
use Rattle.net_walks.specs.Ways.{last_of}
use Rattle.net_walks.proofs.Laws.{ports_are_few, ways_are_short}
use Rattle.fabric_net.specs.Asking.{CanAskNow}
use Rattle.fabric_net.specs.Standing.{StandsFor}
use Rattle.host_talk.specs.Settled.{IsSettledNow}
use Rattle.host_talk.proofs.Laws.{settled_states}
use Rattle.walk_books.specs.declared.found.FoundNode.{FoundNode}
use Rattle.topology_walk.specs.Probes.{probe_over}
use Rattle.topology_walk.specs.Walks.{IsSource, LeadsBehind, found_along}
use Rattle.topology_walk.proofs.Knowing.{ArePorts, ports-more, ports-small}

-- the hops of a probe that leaves the nodes on its way by these ports
abbrev hops_by : List ℕ → List (List MgmtOp)
hops_by ports = map onward ports ++ inquiry ∷ collector ∷ []

-- ---- a probe fits

-- an operation that tells nothing but its code
abbrev plain : ℕ → MgmtOp
plain code = record { code = code; payload = 0 }

plain-fits : (code : ℕ) → code < 16 → FitsOp (plain code)
plain-fits code lt = record {
  payload = omega arith;
  code = omega arith;
}

-- one more operation fits
ops-fit : (op : MgmtOp) (ops : List MgmtOp) → FitsOp op → All FitsOp ops → All FitsOp (op ∷ ops)
ops-fit = All-cons FitsOp

onward-fits : (port : ℕ) → port < 1024 → FitsHop (onward port)
onward-fits port lt =
    let exit : MgmtOp = record { code = 2; payload = port } in
    let fits : FitsOp exit = record {
      payload = omega arith;
      code = omega arith;
    } in
    record {
      some = omega arith;
      many = omega arith;
      each = ops-fit (plain 1) (exit ∷ []) (plain-fits 1 (omega arith)) (ops-fit exit [] fits (All-nil FitsOp));
    }

inquiry-fits : FitsHop inquiry
inquiry-fits = record {
  some = omega arith;
  many = omega arith;
  each = ops-fit (plain 1) (plain 4 ∷ plain 3 ∷ []) (plain-fits 1 (omega arith))
      (ops-fit (plain 4) (plain 3 ∷ []) (plain-fits 4 (omega arith)) (ops-fit (plain 3) [] (plain-fits 3 (omega arith)) (All-nil FitsOp)));
}

collector-fits : FitsHop collector
collector-fits = record {
  some = omega arith;
  many = omega arith;
  each = ops-fit (plain 0) [] (plain-fits 0 (omega arith)) (All-nil FitsOp);
}

hops-fit : (ports : List ℕ) → ArePorts ports → All FitsHop (hops_by ports)
hops-fit [] small = All-cons FitsHop inquiry (collector ∷ []) inquiry-fits (All-cons FitsHop collector [] collector-fits (All-nil FitsHop))
hops-fit (port ∷ ports) small = All-cons FitsHop (onward port) (hops_by ports) (onward-fits port small.0) (hops-fit ports small.1)

hops-many : (ports : List ℕ) → length (hops_by ports) ≡ length ports + 2
hops-many [] = refl
hops-many (port ∷ ports) = let rest = hops-many ports in omega (arith, rest)

ops-many : (ports : List ℕ) → sum_by length (hops_by ports) ≡ 2 * length ports + 4
ops-many [] = refl
ops-many (port ∷ ports) =
    let rest = ops-many ports in
    let one = sum_by-cons (λ (hop : List MgmtOp). length hop) (onward port) (hops_by ports) in
    omega (arith, rest, one)

asked-one : (ports : List ℕ) → sum_by asked_in (hops_by ports) ≡ 1
asked-one [] = refl
asked-one (port ∷ ports) =
    let rest = asked-one ports in
    let one = sum_by-cons asked_in (onward port) (hops_by ports) in
    omega (arith, rest, one)

last-is : (src : Epid) (ports : List ℕ) → last_hop (walk src (hops_by ports)) ≡ collector
last-is src ports =
    let before = map onward ports ++ inquiry ∷ [] in
    let long : length before ≡ length (hops_by ports) - 1 =
    omega (arith, length-append (map onward ports) (inquiry ∷ []), length-map ports onward, hops-many ports) in
    ap (λ (hops : List (List MgmtOp)). get_or hops (length (hops_by ports) - 1) []) (sym (append_assoc (map onward ports) (inquiry ∷ []) (collector ∷ [])))
    ∙ get_or_at before collector [] [] (length (hops_by ports) - 1) long

probe-fits : (src : Epid) (ports : List ℕ) → ArePorts (drop 1 ports) → length (drop 1 ports) ≤ 258 → FitsPacket (probe_over src ports)
probe-fits src ports small few = record {
  vc = omega arith;
  mdata = omega arith;
  body = record {
    width = omega arith;
    many = omega (arith, hops-many (drop 1 ports), few);
    each = hops-fit (drop 1 ports) small;
  };
  len = omega (arith, ops-many (drop 1 ports), few);
}

-- ---- ports on a way

small-rest : (ports : List ℕ) → ArePorts ports → ArePorts (drop 1 ports)
small-rest [] small = tt
small-rest (port ∷ ports) small = small.1

few-rest : (ports : List ℕ) (n : ℕ) → length ports ≤ n → length (drop 1 ports) ≤ n
few-rest [] n few = few
few-rest (port ∷ ports) n few = omega (arith, few)

-- a probe can leave nodes by these ports
pub record FitPorts (ports : List ℕ) : Type 0 where
  pub some : 1 ≤ length ports
  pub few : length ports ≤ 258
  pub small : ArePorts ports

ports-few : (tree : Plan) → FitsTree tree → (x : ℕ) (f : FoundNode) (way : List ℕ) → f ≡ found_along tree x way → f.ports ≤ 32
ports-few tree fits x f [] is = subst (λ (g : FoundNode). g.ports ≤ 32) (sym is) (ports_are_few tree x fits.plan)
ports-few tree fits x f (d ∷ ds) is = subst (λ (g : FoundNode). g.ports ≤ 32) (sym is) (ports_are_few tree (end_of tree.links (last_of d ds)) fits.plan)

-- a further port of a found node is one of its ports
pub found-ports : (tree : Plan) → FitsTree tree → (x : ℕ) (f : FoundNode) (port : ℕ) (ports : List ℕ) → LeadsBehind tree x f port ports → port < 1024
found-ports tree fits x f port ports leads =
    let there = leads.there in
    let few = ports-few tree fits x f leads.known.way leads.known.node in
    omega (arith, there, few)

pub fit-ports : (tree : Plan) → IsTree tree → FitsTree tree → (x : ℕ) (f : FoundNode) (port : ℕ) (ports : List ℕ) → LeadsBehind tree x f port ports → FitPorts ports
fit-ports tree is fits x f port ports leads =
    let trail = leads.trail in
    let way = leads.known.way in
    let few = ways_are_short tree x f.instance way is fits.plan leads.known.is in
    let long : length trail ≡ length way = ap (λ (t : List ℕ). length t) leads.known.made ∙ length-map way (start_port tree.links) in
    let all : length ports ≡ length trail + 1 = ap (λ (ps : List ℕ). length ps) leads.along ∙ length-append trail (port ∷ []) in
    let small : ArePorts trail = subst (λ (t : List ℕ). ArePorts t) (sym leads.known.made) (ports-small tree is fits.plan x f.instance way leads.known.is.0) in
    record {
      some = omega (arith, all);
      few = omega (arith, all, long, few);
      small = subst (λ (ps : List ℕ). ArePorts ps) (sym leads.along) (ports-more trail port small (found-ports tree fits x f port ports leads));
    }

-- ---- it may be asked

pub held : {A : Type 0} (o : Option A) → IsSome o → (x : A) × (o ≡ Some x)
held None is = absurd (false≢true is)
held (Some x) is = (x, refl)

-- the tree for which a net stands
pub tree-of : (p : Present) (w : State) → StandsFor p w → IsTree p.tree
tree-of p w stands = subst (λ (t : Plan). IsTree t) (sym stands.now.tree) stands.lawful.steady.queues.tree

pub fits-of : (p : Present) (w : State) → StandsFor p w → FitsTree p.tree
fits-of p w stands = subst (λ (t : Plan). FitsTree t) (sym stands.now.tree) stands.lawful.tree

pub may-ask : (p : Present) (w : State) (x : ℕ) (src : Epid) (f : FoundNode) (port : ℕ) (ports : List ℕ) → StandsFor p w → IsSettledNow p → IsSource p.tree x src →
    LeadsBehind p.tree x f port ports → CanAskNow p x (probe_over src ports)
may-ask p w x src f port ports stands settled source leads =
    let link = held (link_at p.tree.links x 0) source.linked in
    let there : link_at w.tree.links x 0 ≡ Some link.0 = ap (λ (t : Plan). link_at t.links x 0) (sym stands.now.tree) ∙ link.1 in
    let none : (node_in p.nodes x).requests ≡ [] =
    ap (λ (ns : List Node). (node_in ns x).requests) stands.now.nodes ∙ no_request_waits w x link.0 (settled_states p w stands settled) there in
    let fit = fit-ports p.tree (tree-of p w stands) (fits-of p w stands) x f port ports leads in
    let last : length (last_hop (walk src (hops_by (drop 1 ports)))) ≡ 1 = ap (λ (hop : List MgmtOp). length hop) (last-is src (drop 1 ports)) in
    record {
      host = source.host;
      few = subst (λ (ps : List Packet). length ps < 8) (sym none) (omega arith);
      fits = probe-fits src ports (small-rest ports fit.small) (few-rest ports 258 fit.few);
      channel = refl;
      request = (refl, sym source.own, omega (arith, last, asked-one (drop 1 ports)), settled.rest);
    }
