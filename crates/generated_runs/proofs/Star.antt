-- The network of the generated script is a tree.
use Rattle.std.proofs.Common.{◌≡◌, ℕ, ◌+◌, ◌*◌, zero, suc, true, List, [], ◌∷◌, ◌++◌, map, refl}
use Rattle.net_topology.specs.declared.plan.NodePlan.TheVariants.{Crossbar}
use Rattle.net_topology.specs.declared.plan.Plan.{Plan}
use Rattle.net_topology.specs.Tree.{IsTree}
use Rattle.rf_script.specs.Generated.{chain_nodes, link}
use Rattle.generated_runs.proofs.Trees.{is_tree, is_tree-IsTree}

abbrev pub star : Plan
star = record {
  nodes = Crossbar 8 ∷ (chain_nodes 0 ++ chain_nodes 1);
  links = map (λ k. link k (k + 1)) (0 ∷ 1 ∷ 2 ∷ 3 ∷ 4 ∷ 5 ∷ 6 ∷ 7 ∷ []);
  room = 4;
  limit = 64;
}

-- over the link from port x to node x + 1
abbrev walk_to : ℕ → List ℕ
walk_to zero = []
walk_to (suc x) = 2 * x ∷ []

test : is_tree star walk_to ≡ true
test = refl

pub star-IsTree : IsTree star
star-IsTree = is_tree-IsTree star walk_to test
