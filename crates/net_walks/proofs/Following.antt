-- Behind a link of a way lies the next one, so the way from a host to any node is one of its walkers.
use Rattle.std.proofs.Common.{◌≡◌, ◌≢◌, ℕ, ◌+◌, ◌*◌, ◌<◌, ◌≤◌, List, [], ◌∷◌, length, refl, sym, ◌∙◌, ap, subst, arith}
use Rattle.std.specs.Prelude.{Option, Some, unwrap_or}
use Rattle.std.proofs.lemmas.Bool.{true_from_ne_false}
use Rattle.chdr_words.specs.declared.management.MgmtOp.{MgmtOp}
use Rattle.net_topology.specs.Links.{IsWay, back_of, end_of, end_port, link_at, start_of, start_port}
use Rattle.net_topology.specs.Ranks.{rank_of}
use Rattle.net_topology.specs.Tree.{FitsPlan, IsTree, port_count}
use Rattle.net_topology.specs.declared.plan.Plan.{Plan}
use Rattle.net_topology.proofs.Laws.{links_join_ports, other_ports_lead_on, ports_name_links, ranks_are_bounded, ranks_fall, ways_follow, ways_go_on}
use Rattle.net_machine.specs.Nodes.{is_switch}
use Rattle.net_walks.specs.Probes.{WaysAreWalks}
use Rattle.net_walks.specs.Walks.{onward}
use Rattle.net_walks.specs.Ways.{GoesOver, HopsLeaveByPorts, LinksOverAreFew, WaysAreShort, WaysGoOver}
use Rattle.net_walks.proofs.Backs.{ports-back}
use Rattle.net_walks.proofs.Nodes.{hosts-end, one-port, ports-few}

same-link : (x y : ℕ) → ◌≡◌ {A = Option ℕ} (Some x) (Some y) → x ≡ y
same-link x y is = ap (λ (o : Option ℕ). unwrap_or o x) is

-- behind a link of a way lies the next one
pub ways-over : WaysGoOver
ways-over tree a z d e ds is fits way =
    let lt : d < 2 * length tree.links = way.0.0 in
    let links = tree.links in
    let may = ways_follow tree a z d e ds way in
    let joins = links_join_ports tree is e may.there in
    let port : start_port links e < port_count tree.nodes (end_of links d) =
    subst (λ x. start_port links e < port_count tree.nodes x) may.starts joins.2 in
    let arrival : end_port links d < port_count tree.nodes (end_of links d) = (links_join_ports tree is d lt).3 in
    let link : link_at links (end_of links d) (start_port links e) ≡ Some e =
    ap (λ x. link_at links x (start_port links e)) (sym may.starts) ∙ ports_name_links tree is e may.there in
    let most : port_count tree.nodes (end_of links d) ≤ 32 = ports-few tree (end_of links d) fits in
    let other : start_port links e ≢ end_port links d = λ same. may.onward
    (same-link e (back_of d) (sym link ∙ ap (λ p. link_at links (end_of links d) p) same ∙ ports-back tree d is lt)) in
    record {
      there = may.there;
      switch = true_from_ne_false (is_switch tree (end_of links d)) (λ ends. other
          (one-port tree (end_of links d) (start_port links e) ends port ∙ sym (one-port tree (end_of links d) (end_port links d) ends arrival)));
      port = port;
      small = omega (arith, port, most);
      other = other;
      link = link;
    }

goes-along : (tree : Plan) → IsTree tree → FitsPlan tree → (a z d : ℕ) (ds : List ℕ) → IsWay tree.links a z (d ∷ ds) → GoesOver tree d ds
goes-along tree is fits a z d [] way = tt
goes-along tree is fits a z d (e ∷ ds) way =
    (ways-over tree a z d e ds is fits way, goes-along tree is fits (end_of tree.links d) z e ds (ways_go_on tree a z d (e ∷ ds) way))

-- a rank is left at each link
short : (tree : Plan) → IsTree tree → (d : ℕ) → d < 2 * length tree.links → (ds : List ℕ) → GoesOver tree d ds → length (d ∷ ds) ≤ rank_of tree d + 1
short tree is d lt [] goes = omega arith
short tree is d lt (e ∷ ds) goes =
    let falls = ranks_fall tree is d e lt (other_ports_lead_on tree d e (start_port tree.links e) goes.0.other goes.0.link) in
    let rest = short tree is e goes.0.there ds goes.1 in
    omega (arith, falls, rest)

pub links-few : LinksOverAreFew
links-few tree d ds is fits lt goes =
    let least = short tree is d lt ds goes in
    let bound = ranks_are_bounded tree d in
    let few = is.nodes.few in
    let limit = fits.limit in
    omega (arith, least, bound, few, limit)

pub ways-short : WaysAreShort
ways-short tree y z [] is fits way = omega arith
ways-short tree y z (d ∷ ds) is fits way = links-few tree d ds is fits way.0.0 (goes-along tree is fits y z d ds way)

pub hops-by : HopsLeaveByPorts
hops-by links d [] = refl
hops-by links d (e ∷ ds) = ap (λ (hops : List (List MgmtOp)). onward (start_port links e) ∷ hops) (hops-by links e ds)

pub ways-walk : WaysAreWalks
ways-walk tree x z d ds is fits host way =
    let lt : d < 2 * length tree.links = way.0.0 in
    let starts : start_of tree.links d ≡ x = way.0.1 in
    let port : start_port tree.links d ≡ 0 =
    one-port tree x (start_port tree.links d) (hosts-end tree x host) (subst (λ y. start_port tree.links d < port_count tree.nodes y) starts (links_join_ports tree is d lt).2) in
    record {
      first = (λ i. link_at tree.links (sym starts i) (sym port i)) ∙ ports_name_links tree is d lt;
      goes = goes-along tree is fits x z d ds way;
      once = way.1.1;
    }
