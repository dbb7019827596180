-- Laws of links and the same links the other way.
use Rattle.std.proofs.Common.{◌≡◌, ◌≢◌, ◌==◌, ℕ, ◌+◌, ◌-◌, ◌*◌, ◌/◌, ◌%◌, ◌<◌, Bool, true, false, List, length, refl, sym, ◌∙◌, ap, arith, eq-eqb, if◌then◌else◌}
use Rattle.std.proofs.lemmas.Bool.{eqb-false, eqb-true, ne_eqb}
use Rattle.net_topology.specs.Links.{back_of, link_at, link_of}
use Rattle.net_topology.specs.declared.plan.LinkPlan.{LinkPlan}
use Rattle.net_topology.proofs.Laws.{ports_name_links}
use Rattle.net_walks.specs.Links.{BacksAreThere, BacksEnd, BacksStart, PortsLeadBack}

-- what is read of one end of a link is read of the other the other way
turned : (links : List LinkPlan) (f g : LinkPlan → ℕ) (d : ℕ) (b : Bool) → (d % 2 == 0) ≡ b →
    (if back_of d % 2 == 0 then f (link_of links (back_of d / 2)) else g (link_of links (back_of d / 2)))
    ≡ (if b then g (link_of links (d / 2)) else f (link_of links (d / 2)))
turned links f g d true is =
    let even : d % 2 ≡ 0 = eqb-true (d % 2) 0 is in
    let back : back_of d ≡ d + 1 = ap (λ b. if b then d + 1 else d - 1) is in
    let odd : ((d + 1) % 2 == 0) ≡ false = ne_eqb ((d + 1) % 2) 0 (λ none. omega (arith, even, none)) in
    let half : (d + 1) / 2 ≡ d / 2 = omega (arith, even) in
    (λ i. if back i % 2 == 0 then f (link_of links (back i / 2)) else g (link_of links (back i / 2)))
    ∙ (λ i. if odd i then f (link_of links (half i)) else g (link_of links (half i)))
turned links f g d false is =
    let odd : d % 2 ≢ 0 = eqb-false (d % 2) 0 is in
    let one : d % 2 ≡ 1 = omega (arith, odd) in
    let back : back_of d ≡ d - 1 = ap (λ b. if b then d + 1 else d - 1) is in
    let even : ((d - 1) % 2 == 0) ≡ true = eq-eqb ((d - 1) % 2) 0 (omega (arith, one)) in
    let half : (d - 1) / 2 ≡ d / 2 = omega (arith, one) in
    (λ i. if back i % 2 == 0 then f (link_of links (back i / 2)) else g (link_of links (back i / 2)))
    ∙ (λ i. if even i then f (link_of links (half i)) else g (link_of links (half i)))

both-ways : (links : List LinkPlan) (f g : LinkPlan → ℕ) (d : ℕ) →
    (if back_of d % 2 == 0 then f (link_of links (back_of d / 2)) else g (link_of links (back_of d / 2)))
    ≡ (if d % 2 == 0 then g (link_of links (d / 2)) else f (link_of links (d / 2)))
both-ways links f g d = turned links f g d (d % 2 == 0) refl

pub backs-start : BacksStart
backs-start links d = (both-ways links (λ l. l.a) (λ l. l.b) d, both-ways links (λ l. l.a_port) (λ l. l.b_port) d)

pub backs-end : BacksEnd
backs-end links d = (both-ways links (λ l. l.b) (λ l. l.a) d, both-ways links (λ l. l.b_port) (λ l. l.a_port) d)

pub backs-there : BacksAreThere
backs-there n d lt = by_side (d % 2 == 0) refl
  where
    by_side : (b : Bool) → (d % 2 == 0) ≡ b → (if b then d + 1 else d - 1) < 2 * n
    by_side true is = let even : d % 2 ≡ 0 = eqb-true (d % 2) 0 is in omega (arith, even, lt)
    by_side false is = omega (arith, lt)

pub ports-back : PortsLeadBack
ports-back tree d is lt =
    let starts = backs-start tree.links d in
    (λ i. link_at tree.links (sym starts.0 i) (sym starts.1 i)) ∙ ports_name_links tree is (back_of d) (backs-there (length tree.links) d lt)
