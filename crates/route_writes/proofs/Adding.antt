-- What the steps of a way are when those of a shorter one are added.
use Rattle.std.proofs.Common.{◌≡◌, ℕ, ◌<◌, ◌≤◌, List, [], ◌∷◌, ◌++◌, sym, ◌∙◌, ap, arith, append_assoc}
use Rattle.std.specs.Prelude.{OnOk, Result, Ok, Err}
use Rattle.std.proofs.lemmas.List.{append-nil}
use Rattle.net_topology.specs.Tree.{IsTree}
use Rattle.net_topology.specs.declared.plan.Plan.{Plan}
use Rattle.walk_books.specs.declared.found.FoundNode.{FoundNode}
use Rattle.route_writes.specs.declared.steps.Step.{Step}
use Rattle.found_nodes.specs.Found.{AreFound, IsListed, found_at, place_of}
use Rattle.route_writes.specs.Steps.{step_down, step_up, way_steps}
use Rattle.route_writes.proofs.Paths.{same-place, steps-down, steps-none, steps-up}

pub on-ok : {T E : Type 0} (r : Result T E) (P Q : Type 0) → (P → Q) → OnOk r P → OnOk r Q
on-ok (Ok x) P Q f p = f p
on-ok (Err e) P Q f p = tt

module _ (nodes : List FoundNode) (from to from_place to_place : ℕ) (from_listed : IsListed nodes from) (to_listed : IsListed nodes to)
    (from_is : from_place ≡ place_of nodes from) (to_is : to_place ≡ place_of nodes to) (old : List Step) where
  -- these are those of the way, behind the steps before
  abbrev pub AreAdded : List Step → Type 0
  AreAdded new = (tree : Plan) → IsTree tree → AreFound tree nodes → new ≡ old ++ way_steps tree from to

  pub added-up : to_place < from_place → (pushed new : List Step) (step : Step) → step ≡ step_up (found_at nodes from_place) → pushed ≡ old ++ step ∷ [] →
      ((tree : Plan) → IsTree tree → AreFound tree nodes → new ≡ pushed ++ way_steps tree (found_at nodes from_place).parent to) → AreAdded new
  added-up lt pushed new step step_is pushed_is each tree is found =
      each tree is found
      ∙ ap (λ (ss : List Step). ss ++ way_steps tree (found_at nodes from_place).parent to) pushed_is
      ∙ (λ i. (old ++ step_is i ∷ []) ++ way_steps tree (found_at nodes from_place).parent to)
      ∙ (λ i. (old ++ step_up (found_at nodes (from_is i)) ∷ []) ++ way_steps tree (found_at nodes (from_is i)).parent to)
      ∙ append_assoc old (step_up (found_at nodes (place_of nodes from)) ∷ []) (way_steps tree (found_at nodes (place_of nodes from)).parent to)
      ∙ ap (λ (ss : List Step). old ++ ss) (sym (steps-up tree nodes found is from to from_listed to_listed (omega (arith, from_is, to_is, lt))))

  pub added-down : from_place < to_place → (over new : List Step) (step : Step) → step ≡ step_down (found_at nodes to_place) → new ≡ over ++ step ∷ [] →
      ((tree : Plan) → IsTree tree → AreFound tree nodes → over ≡ old ++ way_steps tree from (found_at nodes to_place).parent) → AreAdded new
  added-down lt over new step step_is new_is each tree is found =
      new_is
      ∙ ap (λ (ss : List Step). ss ++ step ∷ []) (each tree is found)
      ∙ (λ i. (old ++ way_steps tree from (found_at nodes to_place).parent) ++ step_is i ∷ [])
      ∙ (λ i. (old ++ way_steps tree from (found_at nodes (to_is i)).parent) ++ step_down (found_at nodes (to_is i)) ∷ [])
      ∙ append_assoc old (way_steps tree from (found_at nodes (place_of nodes to)).parent) (step_down (found_at nodes (place_of nodes to)) ∷ [])
      ∙ ap (λ (ss : List Step). old ++ ss) (sym (steps-down tree nodes found is from to from_listed to_listed (omega (arith, from_is, to_is, lt))))

  pub added-none : to_place ≤ from_place → from_place ≤ to_place → AreAdded old
  added-none ge le tree is found =
      sym (ap (λ (ss : List Step). old ++ ss)
      (steps-none tree nodes found is from to (same-place nodes from to from_listed to_listed (omega (arith, from_is, to_is, ge, le)))) ∙ append-nil old)
