-- The parts into which the first k links join the nodes, and a plain program for the way.
use Rattle.std.specs.Prelude.{◌≡◌, ◌==◌, ℕ, suc, zero, ◌+◌, ◌*◌, ◌<◌, ◌≤◌, List, [], ◌∷◌, ◌++◌, length, slice_index, slice_index_or, if◌then◌else◌}
use Rattle.net_topology.specs.declared.plan.LinkPlan.{LinkPlan}
use Rattle.net_topology.specs.declared.plan.Plan.{Plan}
use Rattle.net_topology.specs.Links.{link_of}

-- a name, with a new one in place of an old one
abbrev pub renamed : ℕ → ℕ → ℕ → ℕ
renamed new old name = if name == old then new else name

-- the name of a node's part once the first k links stand: link k gives its second node's part the name of its first's
abbrev pub part_of : List LinkPlan → ℕ → ℕ → ℕ
part_of links zero x = x
part_of links (suc k) x =
    renamed (part_of links k (link_of links k).a) (part_of links k (link_of links k).b) (part_of links k x)

-- the way over the first k links between two nodes of one part
abbrev pub way_over : List LinkPlan → ℕ → ℕ → ℕ → List ℕ
way_over links zero a b = []
way_over links (suc k) a b =
    if part_of links k a == part_of links k b then way_over links k a b
    else (if part_of links k a == part_of links k (link_of links k).a
    then way_over links k a (link_of links k).a ++ 2 * k ∷ way_over links k (link_of links k).b b
    else way_over links k a (link_of links k).b ++ (2 * k + 1) ∷ way_over links k (link_of links k).a b)

-- the way between two nodes of a tree
abbrev pub way_of : List LinkPlan → ℕ → ℕ → List ℕ
way_of links a b = way_over links (length links) a b

-- the row has the part of each node, once the first k links stand
pub record IsRow (plan : Plan) (k : ℕ) (row : List ℕ) : Type 0 where
  pub wide : length row ≡ length plan.nodes
  pub names : (x : ℕ) → x < length plan.nodes → slice_index row x ≡ part_of plan.links k x

-- there is a row for no links, for the first link, and so on to the first k
pub record HasRows (plan : Plan) (k : ℕ) (rows : List (List ℕ)) : Type 0 where
  pub many : length rows ≡ k + 1
  pub each : (j : ℕ) → j ≤ k → IsRow plan j (slice_index_or rows j [])
