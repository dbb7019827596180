-- What the rows of parts tell of links and nodes.
use Rattle.std.proofs.Common.{◌≡◌, ℕ, ◌+◌, ◌<◌, ◌≤◌, List, [], ◌∷◌, ◌++◌, length, slice_index, slice_index_or, length-append, inl, inr, sym, ◌∙◌, ap, subst, arith}
use Rattle.std.proofs.lemmas.Bool.{cases_lt}
use Rattle.std.proofs.Math.ListN.{get_or-append}
use Rattle.std.proofs.Math.Seq.{get_or-append_seam}
use Rattle.std.proofs.lemmas.Option.{slice_get_past}
use Rattle.std.specs.Option.{option_map_or}
use Rattle.net_topology.specs.declared.plan.NodePlan.{NodePlan}
use Rattle.net_topology.specs.declared.plan.Plan.{Plan}
use Rattle.net_topology.specs.Links.{link_of, IsJoined, IsWay}
use Rattle.net_topology.specs.Parts.{way_over, way_of, IsRow, HasRows}
use Rattle.net_topology.specs.Tree.{IsTree, ports_of, port_count, SoundBelow}
use Rattle.net_topology.specs.Ranks.{count_below}
use Rattle.net_topology.proofs.PartLemmas.{part_of-walk}
use Rattle.net_topology.proofs.WayLemmas.{Forest, way_over_walks, way_over_is_way}
use Rattle.net_topology.proofs.CountLemmas.{Inside, count_names, is_name}

-- a node with a port is there
pub node_there : (nodes : List NodePlan) (x p : ℕ) → p < port_count nodes x → x < length nodes
node_there nodes x p h =
    elim (cases_lt x (length nodes)) [
      | inl a ↦ a
      | inr b ↦
          let none : port_count nodes x ≡ 0 = ap (λ o. option_map_or ports_of o 0) (slice_get_past nodes x b) in
          absurd (omega arith)
    ]

-- nodes of one name are joined, and the other way round
pub joined_from_row : (plan : Plan) (k a b : ℕ) (row : List ℕ) → IsRow plan k row → a < length plan.nodes → b < length plan.nodes → slice_index row a ≡ slice_index row b → IsJoined plan.links k a b
joined_from_row plan k a b row r p q e =
    (way_over plan.links k a b, way_over_walks plan.links k a b (sym (r.names a p) ∙ e ∙ r.names b q))

pub row_from_joined : (plan : Plan) (k a b : ℕ) (row : List ℕ) → IsRow plan k row → a < length plan.nodes → b < length plan.nodes → IsJoined plan.links k a b → slice_index row a ≡ slice_index row b
row_from_joined plan k a b row r p q j =
    r.names a p ∙ part_of-walk plan.links k a b j.0 j.1 ∙ sym (r.names b q)

-- sound links make a forest, on nodes that are there
pub Forest-from_sound : (plan : Plan) (k : ℕ) → SoundBelow plan k → Forest plan.links k
Forest-from_sound plan k s j h e =
    (s j h).apart (way_over plan.links j (link_of plan.links j).a (link_of plan.links j).b, way_over_walks plan.links j (link_of plan.links j).a (link_of plan.links j).b e)

pub Inside-from_sound : (plan : Plan) (k : ℕ) → SoundBelow plan k → Inside plan.links (length plan.nodes) k
Inside-from_sound plan k s j h = (
  node_there plan.nodes (link_of plan.links j).a (link_of plan.links j).a_port (s j h).ports.0,
  node_there plan.nodes (link_of plan.links j).b (link_of plan.links j).b_port (s j h).ports.1,
)

-- there are no more sound links than nodes
pub links_few : (plan : Plan) (k : ℕ) → SoundBelow plan k → k ≤ length plan.nodes
links_few plan k s =
    let all : count_below (is_name plan.links k) (length plan.nodes) + k ≡ length plan.nodes = count_names plan.links (length plan.nodes) k (Forest-from_sound plan k s) (Inside-from_sound plan k s) in
    omega arith

-- one more row
pub HasRows-push : (plan : Plan) (k : ℕ) (rows : List (List ℕ)) (row : List ℕ) → HasRows plan k rows → IsRow plan (k + 1) row → HasRows plan (k + 1) (rows ++ row ∷ [])
HasRows-push plan k rows row r n =
    record {
      many = omega (arith, length-append rows (row ∷ []), r.many);
      each = λ j h.
          elim (cases_lt j (length rows)) [
            | inl l ↦ subst (IsRow plan j) (sym (get_or-append rows (row ∷ []) [] j l)) (r.each j (omega (arith, r.many)))
            | inr m ↦
                let e : j ≡ length rows = omega (arith, r.many) in
                let f : k + 1 ≡ j = omega (arith, r.many) in
                subst (IsRow plan j) (sym (ap (λ i. slice_index_or (rows ++ row ∷ []) i []) e ∙ get_or-append_seam rows row [] [])) (subst (λ i. IsRow plan i row) f n)
          ];
    }

-- in a checked plan the program's walk is a way
pub way_of_is_way : (plan : Plan) (a b : ℕ) → IsTree plan → a < length plan.nodes → b < length plan.nodes → IsWay plan.links a b (way_of plan.links a b)
way_of_is_way plan a b tree p q =
    let k = length plan.links in
    let x = tree.joined a p in
    let y = tree.joined b q in
    way_over_is_way plan.links (length plan.links) a b (Forest-from_sound plan (length plan.links) tree.links)
    (sym (part_of-walk plan.links (length plan.links) 0 a x.0 x.1) ∙ part_of-walk plan.links (length plan.links) 0 b y.0 y.1)
