use Rattle.std.proofs.Common.{◌≡◌, ℕ, ◌<◌, get_or, ◌⊎◌}
use Rattle.graph_core.specs.declared.place.Edge.{Edge}
use Rattle.graph_core.proofs.reach.is_taken.Given as goal

abbrev pub invariant-loop-edge : goal.invariant-loop-edge
invariant-loop-edge l = (k : ℕ) (d : Edge) → k < l.edge-index → ((get_or l.edges k d).from ≡ l.from) ⊎ ((get_or l.edges k d).to ≡ l.to) → ⊥
