-- The rank of directed links: packets that never turn back go down in it.
use Rattle.std.specs.Prelude.{◌≡◌, ◌≢◌, ◌==◌, ℕ, zero, suc, ◌+◌, ◌*◌, ◌<◌, Bool, false, List, [], ◌∷◌, length, if◌then◌else◌}
use Rattle.net_topology.specs.declared.plan.LinkPlan.{LinkPlan}
use Rattle.net_topology.specs.declared.plan.Plan.{Plan}
use Rattle.net_topology.specs.Links.{back_of, start_of, end_of}
use Rattle.net_topology.specs.Parts.{way_of}

-- how many numbers below n pass the test
abbrev pub count_below : (ℕ → Bool) → ℕ → ℕ
count_below p zero = 0
count_below p (suc n) = count_below p n + (if p n then 1 else 0)

-- the way begins with this directed link
abbrev pub begins_with : ℕ → List ℕ → Bool
begins_with d [] = false
begins_with d (e ∷ ds) = e == d

-- node x lies ahead of a directed link: the way to it from the link's first node begins with the link
abbrev pub is_ahead : List LinkPlan → ℕ → ℕ → Bool
is_ahead links d x = begins_with d (way_of links (start_of links d) x)

-- how many nodes lie ahead of a directed link
abbrev pub rank_of : Plan → ℕ → ℕ
rank_of plan d = count_below (is_ahead plan.links d) (length plan.nodes)

-- a packet that comes over d may go on over e: e leaves the node to which d comes, and isn't the way back
pub record MayFollow (links : List LinkPlan) (d e : ℕ) : Type 0 where
  pub there : e < 2 * length links
  pub starts : start_of links e ≡ end_of links d
  pub onward : e ≢ back_of d
