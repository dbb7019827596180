-- A write may be asked.
use Rattle.std.proofs.Common.{◌≡◌, ℕ, ◌+◌, ◌-◌, ◌*◌, ◌^◌, ◌<◌, ◌≤◌, true, List, [], ◌∷◌, ◌++◌, length, map, refl, sym, ◌∙◌, ap, subst, arith, get_or, suc}
use Rattle.std.specs.Prelude.{Some, All}
use Rattle.std.specs.List.{AllByRecursion, sum_by}
use Rattle.std.proofs.lemmas.List.{length-map}
use Rattle.std.proofs.lemmas.List.Elements.{All-cons, All-nil}
use Rattle.std.proofs.lemmas.List.Sums.{sum_by-cons}
use Rattle.chdr_packets.specs.Fits.{FitsPacket}
use Rattle.chdr_packets.specs.declared.packet.Packet.{Packet}
use Rattle.chdr_words.specs.Management.{FitsHop, FitsOp}
use Rattle.chdr_words.specs.declared.epid.Epid.{Epid}
use Rattle.chdr_words.specs.declared.management.MgmtOp.{MgmtOp}
use Rattle.net_nodes.specs.Operations.{asked_in}
use Rattle.net_nodes.specs.Perform.{last_hop}
use Rattle.net_topology.specs.Links.{link_at, start_port}
use Rattle.net_topology.specs.Tree.{FitsPlan, IsTree}
use Rattle.net_topology.specs.declared.plan.Plan.{Plan}
use Rattle.net_topology.proofs.Laws.{links_leave_by_ports}
use Rattle.net_machine.specs.Nodes.{is_host_at, own_epid}
use Rattle.net_machine.specs.State.{Node, State, node_in}
use Rattle.net_present.specs.Present.{Present}
use Rattle.net_lone.proofs.Laws.{no_request_waits}
use Rattle.net_walks.proofs.Laws.{hops_leave_by_ports, links_over_are_few}
use Rattle.net_walks.specs.Probes.{IsWalk}
use Rattle.net_walks.specs.Ways.{GoesOver}
use Rattle.net_walks.specs.Walks.{collector, onward, walk as walk_of, walker}
use Rattle.net_writes.specs.Crossings.{Crossing, entry_write, write_packet, writing}
use Rattle.fabric_net.specs.Asking.{CanAskNow}
use Rattle.fabric_net.specs.Standing.{StandsFor}
use Rattle.host_talk.specs.Settled.{IsSettledNow}
use Rattle.host_talk.proofs.Laws.{settled_states}

-- ---- ports

-- numbers of ports
abbrev ArePorts : List ℕ → Type 0
ArePorts ports = AllByRecursion (λ port. port < 1024) ports

ports-small : (tree : Plan) (d : ℕ) (ds : List ℕ) → GoesOver tree d ds → ArePorts (map (start_port tree.links) ds)
ports-small tree d [] goes = tt
ports-small tree d (e ∷ ds) goes = let small = goes.0.small in (omega (arith, small), ports-small tree e ds goes.1)

-- ---- a write fits

-- its hops, by the ports of its way
abbrev hops_at : List ℕ → Crossing → List (List MgmtOp)
hops_at ports it = map onward ports ++ writing it ∷ collector ∷ []

-- an operation that tells nothing but its code
abbrev plain : ℕ → MgmtOp
plain code = record { code = code; payload = 0 }

plain-fits : (code : ℕ) → code < 16 → FitsOp (plain code)
plain-fits code lt = record {
  payload = omega arith;
  code = omega arith;
}

onward-fits : (port : ℕ) → port < 1024 → FitsHop (onward port)
onward-fits port lt =
    let exit : MgmtOp = record { code = 2; payload = port } in
    let fits : FitsOp exit = record {
      payload = omega arith;
      code = omega arith;
    } in
    record {
      some = omega arith;
      many = omega arith;
      each = All-cons FitsOp (plain 1) (exit ∷ []) (plain-fits 1 (omega arith)) (All-cons FitsOp exit [] fits (All-nil FitsOp));
    }

entry-fits : (epid : Epid) (port : ℕ) → epid.0 < 2 ^ 16 → port < 1024 → FitsOp (entry_write epid port)
entry-fits epid port short small = record {
  payload = omega (arith, short, small);
  code = omega arith;
}

-- the EPIDs and ports of a route's entries fit
pub record FitsCrossing (it : Crossing) : Type 0 where
  pub a : it.a.0 < 2 ^ 16
  pub to_a : it.to_a < 1024
  pub b : it.b.0 < 2 ^ 16
  pub to_b : it.to_b < 1024

writing-fits : (it : Crossing) → FitsCrossing it → FitsHop (writing it)
writing-fits it fits =
    let a = entry_write it.a it.to_a in
    let b = entry_write it.b it.to_b in
    record {
      some = omega arith;
      many = omega arith;
      each = All-cons FitsOp (plain 1) (b ∷ a ∷ plain 3 ∷ []) (plain-fits 1 (omega arith))
          (All-cons FitsOp b (a ∷ plain 3 ∷ []) (entry-fits it.b it.to_b fits.b fits.to_b)
          (All-cons FitsOp a (plain 3 ∷ []) (entry-fits it.a it.to_a fits.a fits.to_a) (All-cons FitsOp (plain 3) [] (plain-fits 3 (omega arith)) (All-nil FitsOp))));
    }

collector-fits : FitsHop collector
collector-fits = record {
  some = omega arith;
  many = omega arith;
  each = All-cons FitsOp (plain 0) [] (plain-fits 0 (omega arith)) (All-nil FitsOp);
}

hops-fit : (ports : List ℕ) (it : Crossing) → ArePorts ports → FitsCrossing it → All FitsHop (hops_at ports it)
hops-fit [] it small fits = All-cons FitsHop (writing it) (collector ∷ []) (writing-fits it fits) (All-cons FitsHop collector [] collector-fits (All-nil FitsHop))
hops-fit (port ∷ ports) it small fits = All-cons FitsHop (onward port) (hops_at ports it) (onward-fits port small.0) (hops-fit ports it small.1 fits)

hops-many : (ports : List ℕ) (it : Crossing) → length (hops_at ports it) ≡ length ports + 2
hops-many [] it = refl
hops-many (port ∷ ports) it = let rest = hops-many ports it in omega (arith, rest)

ops-many : (ports : List ℕ) (it : Crossing) → sum_by length (hops_at ports it) ≡ 2 * length ports + 5
ops-many [] it = refl
ops-many (port ∷ ports) it =
    let rest = ops-many ports it in
    let one = sum_by-cons (λ (hop : List MgmtOp). length hop) (onward port) (hops_at ports it) in
    omega (arith, rest, one)

none-asked : (ports : List ℕ) (it : Crossing) → sum_by asked_in (hops_at ports it) ≡ 0
none-asked [] it = refl
none-asked (port ∷ ports) it =
    let rest = none-asked ports it in
    let one = sum_by-cons asked_in (onward port) (hops_at ports it) in
    omega (arith, rest, one)

last-is : (src : Epid) (ports : List ℕ) (it : Crossing) → last_hop (walk_of src (hops_at ports it)) ≡ collector
last-is src ports it =
    let many : length (hops_at ports it) - 1 ≡ length (map onward ports) + 1 = omega (arith, hops-many ports it, length-map ports onward) in
    ap (λ n. get_or (hops_at ports it) n []) many ∙ at-last (map onward ports)
  where
    at-last : (hops : List (List MgmtOp)) → get_or (hops ++ writing it ∷ collector ∷ []) (length hops + 1) [] ≡ collector
    at-last [] = refl
    at-last (hop ∷ hops) =
        let n : length (hop ∷ hops) + 1 ≡ suc (length hops + 1) = omega arith in
        ap (λ k. get_or (hop ∷ (hops ++ writing it ∷ collector ∷ [])) k []) n ∙ at-last hops

write-fits : (src : Epid) (ports : List ℕ) (it : Crossing) → ArePorts ports → length ports ≤ 258 → FitsCrossing it → FitsPacket (walker src (hops_at ports it))
write-fits src ports it small few fits = record {
  vc = omega arith;
  mdata = omega arith;
  body = record {
    width = omega arith;
    many = omega (arith, hops-many ports it, few);
    each = hops-fit ports it small fits;
  };
  len = omega (arith, ops-many ports it, few);
}

-- ---- it may be asked

-- the tree for which a net stands
pub tree-of : (p : Present) (w : State) → StandsFor p w → IsTree p.tree
tree-of p w stands = subst (λ (t : Plan). IsTree t) (sym stands.now.tree) stands.lawful.steady.queues.tree

-- over a way from its host a write may be asked
pub may-ask : (p : Present) (w : State) (x d : ℕ) (ds : List ℕ) (src : Epid) (it : Crossing) → StandsFor p w → IsSettledNow p → FitsPlan p.tree → is_host_at p.tree x ≡ true →
    own_epid p.tree x ≡ src → IsWalk p.tree x d ds → FitsCrossing it → CanAskNow p x (write_packet p.tree.links src (d ∷ ds) it)
may-ask p w x d ds src it stands settled fits host own walk fit =
    let is = tree-of p w stands in
    let ports = map (start_port p.tree.links) ds in
    let there : link_at w.tree.links x 0 ≡ Some d = ap (λ (t : Plan). link_at t.links x 0) (sym stands.now.tree) ∙ walk.first in
    let none : (node_in p.nodes x).requests ≡ [] =
    ap (λ (ns : List Node). (node_in ns x).requests) stands.now.nodes ∙ no_request_waits w x d (settled_states p w stands settled) there in
    let few = links_over_are_few p.tree d ds is fits (links_leave_by_ports p.tree d x 0 walk.first).2 walk.goes in
    let long = length-map ds (start_port p.tree.links) in
    let last : length (last_hop (walk_of src (hops_at ports it))) ≡ 1 = ap (λ (hop : List MgmtOp). length hop) (last-is src ports it) in
    subst (λ (hops : List (List MgmtOp)). CanAskNow p x (walker src (hops ++ writing it ∷ collector ∷ []))) (sym (hops_leave_by_ports p.tree.links d ds))
    (record {
      host = host;
      few = subst (λ (ps : List Packet). length ps < 8) (sym none) (omega arith);
      fits = write-fits src ports it (ports-small p.tree d ds walk.goes) (omega (arith, few, long)) fit;
      channel = refl;
      request = (refl, sym own, omega (arith, last, none-asked ports it), settled.rest);
    })
