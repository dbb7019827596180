-- A route between found ends may be written.
use Rattle.std.proofs.Common.{◌≡◌, ◌≢◌, ◌==◌, ℕ, ◌^◌, ◌<◌, Bool, true, false, cond, List, [], ◌∷◌, ◌++◌, length, refl, sym, ◌∙◌, ap, subst, if◌then◌else◌}
use Rattle.std.specs.Prelude.{Option, Some, None, IsSome, is_some, Result, Ok, Err, is_none, nat_lt, option_map, unwrap_or}
use Rattle.std.specs.List.{position_or_len}
use Rattle.std.specs.Option.{option_and_then}
use Rattle.std.proofs.lemmas.Bool.{and_parts, eqb-true, false≢true, ltb-true}
use Rattle.std.proofs.lemmas.List.Sums.{passes_at_first}
use Rattle.chdr_words.specs.declared.epid.Epid.{Epid}
use Rattle.net_topology.specs.Links.{link_at}
use Rattle.net_topology.specs.Tree.{IsTree, epid_at, node_with}
use Rattle.net_topology.specs.declared.plan.Plan.{Plan}
use Rattle.net_topology.proofs.Laws.{epids_name_nodes}
use Rattle.found_nodes.proofs.Laws.{nodes_are_listed}
use Rattle.net_machine.specs.Nodes.{host_at, host_with, is_host_at, own_epid}
use Rattle.net_machine.specs.Plans.{no_epid}
use Rattle.net_machine.specs.State.{State}
use Rattle.net_lawful.specs.Messages.{FitsTree}
use Rattle.net_present.specs.Present.{Present}
use Rattle.fabric_net.specs.Standing.{StandsFor}
use Rattle.walk_books.specs.declared.found.FoundNode.{FoundNode}
use Rattle.route_writes.specs.declared.fault.RouteFault.{RouteFault}
use Rattle.route_writes.specs.declared.fault.RouteFault.TheVariants.{Unknown, Lost, Memory}
use Rattle.route_writes.specs.declared.steps.Step.{Step}
use Rattle.found_nodes.specs.Found.{AreFound, IsListed, found_at, found_with, has_end, is_end, no_node}
use Rattle.route_writes.specs.Planned.{IsPlanned, route_at}
use Rattle.route_writes.specs.Routing.{HasLost, HasRouted, IsRouted, IsWriting, UnlessMemory, number_with, route_of, unknown_of}
use Rattle.route_writes.specs.Steps.{way_steps}
use Rattle.route_writes.specs.Writes.{Desk, HasAsked, Route, Write}
use Rattle.route_writes.proofs.Asking.{tree-of}

-- ---- what was found

pub number-none : (nodes : List FoundNode) (epid : Epid) → number_with nodes epid ≡ None → is_none (found_with nodes epid) ≡ true
number-none nodes epid is = by_place (found_with nodes epid) is
  where
    by_place : (o : Option ℕ) → option_map (λ k. (found_at nodes k).instance) o ≡ None → is_none o ≡ true
    by_place None h = refl
    by_place (Some k) h = let z : ◌≡◌ {A = Option ℕ} (Some (found_at nodes k).instance) None = h in absurd cc

pub number-there : (nodes : List FoundNode) (epid : Epid) (x : ℕ) → number_with nodes epid ≡ Some x → is_none (found_with nodes epid) ≡ false
number-there nodes epid x is = by_place (found_with nodes epid) is
  where
    by_place : (o : Option ℕ) → option_map (λ k. (found_at nodes k).instance) o ≡ Some x → is_none o ≡ false
    by_place None h = let z : ◌≡◌ {A = Option ℕ} None (Some x) = h in absurd cc
    by_place (Some k) h = refl

-- a node with this EPID was found
pub record IsEnd (tree : Plan) (nodes : List FoundNode) (epid : Epid) (x : ℕ) : Type 0 where
  pub node : node_with tree.nodes epid ≡ Some x
  pub listed : IsListed nodes x

epids-same : (a b : Epid) → a.0 ≡ b.0 → a ≡ b
epids-same a b is = λ i. record { 0 = is i }

pub number-some : (tree : Plan) → IsTree tree → (nodes : List FoundNode) → AreFound tree nodes → (epid : Epid) (x : ℕ) → number_with nodes epid ≡ Some x → IsEnd tree nodes epid x
number-some tree is nodes found epid x at = by_place (nat_lt place (length nodes)) refl at
  where
    place : ℕ
    place = position_or_len (has_end epid) nodes

    f : FoundNode
    f = found_at nodes place

    by_place : (b : Bool) → nat_lt place (length nodes) ≡ b → option_map (λ k. (found_at nodes k).instance) (cond b (Some place) None) ≡ Some x → IsEnd tree nodes epid x
    by_place false test h = let z : ◌≡◌ {A = Option ℕ} None (Some x) = h in absurd cc
    by_place true test h =
        let lt : place < length nodes = ltb-true place (length nodes) test in
        let passes = and_parts (is_end f.kind) (f.epid.0 == epid.0) (passes_at_first (has_end epid) nodes no_node lt) in
        let same : f.epid ≡ epid = epids-same f.epid epid (eqb-true f.epid.0 epid.0 passes.1) in
        let number : f.instance ≡ x = ap (λ (o : Option ℕ). unwrap_or o x) h in
        let epid_is : epid_at tree.nodes x ≡ Some epid =
        ap (λ (n : ℕ). epid_at tree.nodes n) (sym number) ∙ found.epids place lt passes.0 ∙ ap (λ (e : Epid). Some e) same in
        record {
          node = (epids_name_nodes tree is x epid).1 epid_is;
          listed = subst (λ (n : ℕ). IsListed nodes n) number (nodes_are_listed nodes place lt);
        }

-- ---- which EPID is unknown

module _ (nodes : List FoundNode) (host a b : Epid) where
  pub unknown-host : is_none (found_with nodes host) ≡ true → unknown_of nodes host a b ≡ Some host
  unknown-host h = ap (λ t. if t then Some host
      else (if is_none (found_with nodes a) then Some a else (if is_none (found_with nodes b) then Some b else None))) h

  pub unknown-a : is_none (found_with nodes host) ≡ false → is_none (found_with nodes a) ≡ true → unknown_of nodes host a b ≡ Some a
  unknown-a h f = λ i. if h i then Some host else (if f i then Some a else (if is_none (found_with nodes b) then Some b else None))

  pub unknown-b : is_none (found_with nodes host) ≡ false → is_none (found_with nodes a) ≡ false → is_none (found_with nodes b) ≡ true → unknown_of nodes host a b ≡ Some b
  unknown-b h f t = λ i. if h i then Some host else (if f i then Some a else (if t i then Some b else None))

  pub unknown-none : is_none (found_with nodes host) ≡ false → is_none (found_with nodes a) ≡ false → is_none (found_with nodes b) ≡ false → unknown_of nodes host a b ≡ None
  unknown-none h f t = λ i. if h i then Some host else (if f i then Some a else (if t i then Some b else None))

-- ---- a route is planned

host-is : (tree : Plan) (host : Epid) (x : ℕ) → node_with tree.nodes host ≡ Some x → IsSome (host_with tree host) → is_host_at tree x ≡ true
host-is tree host x at some = by_host (is_host_at tree x) refl (subst (λ (o : Option ℕ). IsSome (option_and_then (host_at tree) o)) at some)
  where
    linked : Bool
    linked = is_some (link_at tree.links x 0)

    by_host : (b : Bool) → is_host_at tree x ≡ b → IsSome (if◌then◌else◌ {A = Option (ℕ × Bool)} b (Some (x, linked)) None) → is_host_at tree x ≡ true
    by_host true is there = is
    by_host false is there = absurd (false≢true there)

own-is : (tree : Plan) (epid : Epid) (x : ℕ) → IsTree tree → node_with tree.nodes epid ≡ Some x → own_epid tree x ≡ epid
own-is tree epid x is node = ap (λ (o : Option Epid). unwrap_or o no_epid) ((epids_name_nodes tree is x epid).0 node)

short-epid : (tree : Plan) → IsTree tree → FitsTree tree → (x : ℕ) (epid : Epid) → node_with tree.nodes epid ≡ Some x → epid.0 < 2 ^ 16
short-epid tree is fits x epid node = fits.epids x epid ((epids_name_nodes tree is x epid).0 node)

pub planned : (p : Present) (w : State) → StandsFor p w → (nodes : List FoundNode) → AreFound p.tree nodes → (host a b : Epid) (x y z : ℕ) → IsSome (host_with p.tree host) → a ≢ b →
    number_with nodes host ≡ Some x → number_with nodes a ≡ Some y → number_with nodes b ≡ Some z → (steps : List Step) → steps ≡ way_steps p.tree y z →
    IsPlanned p.tree nodes (record { node = x; host = host; a = a; b = b }) steps
planned p w stands nodes found host a b x y z some other host_at_x a_at b_at steps made =
    let tree = p.tree in
    let is = tree-of p w stands in
    let fits : FitsTree tree = subst (λ (t : Plan). FitsTree t) (sym stands.now.tree) stands.lawful.tree in
    let h = number-some tree is nodes found host x host_at_x in
    let f = number-some tree is nodes found a y a_at in
    let t = number-some tree is nodes found b z b_at in
    record {
      found = found;
      y = y;
      z = z;
      route = record {
        is_tree = is;
        fits = fits.plan;
        host = host-is tree host x h.node some;
        own = own-is tree host x is h.node;
        from = f.node;
        to = t.node;
        other = other;
        a_fits = short-epid tree is fits y a f.node;
        b_fits = short-epid tree is fits z b t.node;
      };
      start = h.listed;
      from = f.listed;
      to = t.listed;
      made = made;
    }

-- ---- what the call gives

pub writing-by : (tree : Plan) (nodes : List FoundNode) (host a b : Epid) (x : ℕ) (old new : Desk) (result : Result ℕ RouteFault) → old.net.present.tree ≡ tree →
    unknown_of nodes host a b ≡ None → node_with tree.nodes host ≡ Some x → IsRouted (route_at tree (record { node = x; host = host; a = a; b = b })) old result new →
    IsWriting nodes host a b old result new
writing-by tree nodes host a b x old new result same none node routed = by_result result routed
  where
    is : route_at tree (record { node = x; host = host; a = a; b = b }) ≡ route_of old.net.present.tree host a b
    is = (λ i. record { tree = tree; x = unwrap_or (sym node i) 0; src = host; a = a; b = b }) ∙ ap (λ (t : Plan). route_of t host a b) (sym same)

    by_result : (r : Result ℕ RouteFault) → IsRouted (route_at tree (record { node = x; host = host; a = a; b = b })) old r new → IsWriting nodes host a b old r new
    by_result (Ok count) h = (none, subst (λ (route : Route). HasRouted route count old new) is h)
    by_result (Err (Unknown epid)) h = absurd h
    by_result (Err (Lost instance)) h = (none, subst (λ (route : Route). HasLost route instance old new) is h)
    by_result (Err Memory) h = tt

pub writing-none : (nodes : List FoundNode) (host a b epid : Epid) (desk : Desk) → unknown_of nodes host a b ≡ Some epid → IsWriting nodes host a b desk (Err (Unknown epid)) desk
writing-none nodes host a b epid desk none = (none, refl)

-- what is so after an Ok and after a lost write is so unless there was no memory
pub unless-memory : (route : Route) (old new : Desk) (result : Result ℕ RouteFault) (fact : Type 0) → IsRouted route old result new →
    ((writes : List Write) → HasAsked route writes old new → fact) → UnlessMemory result fact
unless-memory route old new (Ok count) fact routed each = each routed.writes routed.asked
unless-memory route old new (Err (Unknown epid)) fact routed each = absurd routed
unless-memory route old new (Err (Lost instance)) fact routed each = each (routed.writes ++ routed.last ∷ []) routed.asked
unless-memory route old new (Err Memory) fact routed each = tt
