-- Walks over directed links.
use Rattle.std.proofs.Common.{◌≡◌, ℕ, suc, ◌+◌, ◌*◌, ◌/◌, ◌%◌, List, [], ◌∷◌, ◌++◌, sym, refl, subst, arith}
use Rattle.net_topology.specs.declared.plan.LinkPlan.{LinkPlan}
use Rattle.net_topology.specs.Links.{link_of, start_of, end_of, Walks}

pub half_even : (k : ℕ) → (2 * k) / 2 ≡ k
half_even k = omega arith

pub rest_even : (k : ℕ) → (2 * k) % 2 ≡ 0
rest_even k = omega arith

pub half_odd : (k : ℕ) → (2 * k + 1) / 2 ≡ k
half_odd k = omega arith

pub rest_odd : (k : ℕ) → (2 * k + 1) % 2 ≡ 1
rest_odd k = omega arith

pub start_of-even : (links : List LinkPlan) (k : ℕ) → start_of links (2 * k) ≡ (link_of links k).a
start_of-even links k = rw (rest_even k, half_even k) refl

pub end_of-even : (links : List LinkPlan) (k : ℕ) → end_of links (2 * k) ≡ (link_of links k).b
end_of-even links k = rw (rest_even k, half_even k) refl

pub start_of-odd : (links : List LinkPlan) (k : ℕ) → start_of links (2 * k + 1) ≡ (link_of links k).b
start_of-odd links k = rw (rest_odd k, half_odd k) refl

pub end_of-odd : (links : List LinkPlan) (k : ℕ) → end_of links (2 * k + 1) ≡ (link_of links k).a
end_of-odd links k = rw (rest_odd k, half_odd k) refl

-- one walk after another
pub Walks-append : (links : List LinkPlan) (k a b c : ℕ) (ps qs : List ℕ) → Walks links k a b ps → Walks links k b c qs → Walks links k a c (ps ++ qs)
Walks-append links k a b c [] qs p q = subst (λ x. Walks links k x c qs) (sym p) q
Walks-append links k a b c (d ∷ ps) qs p q = (p.0, p.1, Walks-append links k (end_of links d) b c ps qs p.2 q)

-- more links allow every walk of fewer
pub Walks-wider : (links : List LinkPlan) (k a b : ℕ) (ds : List ℕ) → Walks links k a b ds → Walks links (suc k) a b ds
Walks-wider links k a b [] p = p
Walks-wider links k a b (d ∷ ds) p = (omega (arith, p.0), p.1, Walks-wider links k (end_of links d) b ds p.2)
