-- The ways of walkers over directed links.
use Rattle.std.specs.Prelude.{◌≡◌, ◌≢◌, ℕ, ◌*◌, ◌<◌, ◌≤◌, ◌^◌, true, List, [], ◌∷◌, length, map, Some}
use Rattle.chdr_words.specs.declared.epid.Epid.{Epid}
use Rattle.net_topology.specs.Links.{IsWay, end_of, end_port, link_at, start_port}
use Rattle.net_topology.specs.Tree.{FitsPlan, IsTree, port_count}
use Rattle.net_topology.specs.declared.plan.LinkPlan.{LinkPlan}
use Rattle.net_topology.specs.declared.plan.Plan.{Plan}
use Rattle.net_machine.specs.Nodes.{is_switch}
use Rattle.net_machine.specs.State.{Node}
use Rattle.net_walks.specs.Walks.{advertised_at, hops_over, onward}

-- a packet that came over d to a crossbar or an adapter may leave it over e
pub record IsNextLink (tree : Plan) (d e : ℕ) : Type 0 where
  pub there : e < 2 * length tree.links
  pub switch : is_switch tree (end_of tree.links d) ≡ true
  pub port : start_port tree.links e < port_count tree.nodes (end_of tree.links d)
  pub small : start_port tree.links e < 2 ^ 10
  pub other : start_port tree.links e ≢ end_port tree.links d
  pub link : link_at tree.links (end_of tree.links d) (start_port tree.links e) ≡ Some e

-- so it may go on over these, one after another
abbrev pub GoesOver : Plan → ℕ → List ℕ → Type 0
GoesOver tree d [] = Unit {0}
GoesOver tree d (e ∷ ds) = IsNextLink tree d e × GoesOver tree e ds

-- the last one of them
abbrev pub last_of : ℕ → List ℕ → ℕ
last_of d [] = d
last_of d (e ∷ ds) = last_of e ds

-- the nodes when a walker came over these links, and the last node hasn't performed its hop
abbrev pub passed_over : Plan → Epid → ℕ → List ℕ → List Node → List Node
passed_over tree src d [] nodes = nodes
passed_over tree src d (e ∷ ds) nodes = passed_over tree src e ds (advertised_at tree src d nodes)

-- and when it has
abbrev pub left_by : Plan → Epid → ℕ → List ℕ → List Node → List Node
left_by tree src d ds nodes = advertised_at tree src (last_of d ds) (passed_over tree src d ds nodes)

-- Behind a link of a way lies the next one.
abbrev pub WaysGoOver : Type 0
WaysGoOver = (tree : Plan) (y z d e : ℕ) (ds : List ℕ) → IsTree tree → FitsPlan tree → IsWay tree.links y z (d ∷ e ∷ ds) → IsNextLink tree d e

-- So a way has no more links than a packet may have hops, and neither has any list of links like this.
abbrev pub WaysAreShort : Type 0
WaysAreShort = (tree : Plan) (y z : ℕ) (ds : List ℕ) → IsTree tree → FitsPlan tree → IsWay tree.links y z ds → length ds ≤ 257

abbrev pub LinksOverAreFew : Type 0
LinksOverAreFew = (tree : Plan) (d : ℕ) (ds : List ℕ) → IsTree tree → FitsPlan tree → d < 2 * length tree.links → GoesOver tree d ds → length (d ∷ ds) ≤ 257

-- A walker leaves nodes by the ports at which the links behind the first one start.
abbrev pub HopsLeaveByPorts : Type 0
HopsLeaveByPorts = (links : List LinkPlan) (d : ℕ) (ds : List ℕ) → hops_over links (d ∷ ds) ≡ map onward (map (start_port links) ds)
