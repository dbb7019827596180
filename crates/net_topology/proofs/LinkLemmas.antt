-- The directed link at a port.
use Rattle.std.proofs.Common.{◌≡◌, ◌==◌, ◌&&◌, ℕ, ◌+◌, ◌*◌, ◌<◌, ◌≤◌, List, length, drop, None, Some, ◌∙◌, ap, arith, if◌then◌else◌}
use Rattle.std.proofs.lemmas.List.{at_drop_more, at_drop_all}
use Rattle.net_topology.specs.declared.plan.LinkPlan.{LinkPlan}
use Rattle.net_topology.specs.Links.{no_link, link_of, link_after}

-- the search from link k on looks at link k, and then from the next link on
pub link_after_more : (links : List LinkPlan) (k node port : ℕ) → k < length links → link_after (2 * k) (drop k links) node port ≡ (if (link_of links k).a == node && (link_of links k).a_port == port then Some (2 * k) else (if (link_of links k).b == node && (link_of links k).b_port == port then Some (2 * k + 1) else link_after (2 * (k + 1)) (drop (k + 1) links) node port))
link_after_more links k node port h =
    let e : 2 * k + 2 ≡ 2 * (k + 1) = omega arith in
    at_drop_more (λ ls. link_after (2 * k) ls node port) links k no_link h
    ∙ ap (λ d. if (link_of links k).a == node && (link_of links k).a_port == port then Some (2 * k) else (if (link_of links k).b == node && (link_of links k).b_port == port then Some (2 * k + 1) else link_after d (drop (k + 1) links) node port)) e

-- past the last link there is none
pub link_after_all : (links : List LinkPlan) (k node port : ℕ) → length links ≤ k → link_after (2 * k) (drop k links) node port ≡ None
link_after_all links k node port h = at_drop_all (λ ls. link_after (2 * k) ls node port) links k h

pub ruleset link_lemmas = (link_after_more, link_after_all)
