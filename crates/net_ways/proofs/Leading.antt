-- Tables that lead go along the way, from queue to queue.
use Rattle.std.proofs.Common.{◌≡◌, ℕ, ◌+◌, ◌*◌, ◌<◌, List, [], ◌∷◌, ◌++◌, length, map, drop, get_or, Some, sym, ◌∙◌, ap, arith}
use Rattle.std.proofs.lemmas.List.{length-append}
use Rattle.chdr_words.specs.declared.epid.Epid.{Epid}
use Rattle.net_topology.specs.declared.plan.Plan.{Plan}
use Rattle.net_topology.specs.declared.plan.LinkPlan.{LinkPlan}
use Rattle.net_topology.specs.Leads.{Exits, sent_on, LeadsOver, Leads}
use Rattle.net_topology.specs.Links.{Avoids, NoneTwice, Walks, start_of, end_of, IsWay}
use Rattle.net_topology.specs.Tree.{IsTree}
use Rattle.net_topology.proofs.Laws.{leads_along_ways, leads_are_ways, links_leave_by_ports}
use Rattle.net_machine.specs.Nodes.{exits_of}
use Rattle.net_machine.specs.Queues.{queue_of}
use Rattle.net_machine.specs.State.{State}
use Rattle.net_ways.specs.Ways.{HasQueues, IsLedTo, WaysAreOverQueues, WaysBegin, queues_over, way_between}

pub led-way : (tree : Plan) (is : IsTree tree) (exits : Exits) (a b : Epid) (l : Leads tree exits a b) → way_between tree a b ≡ l.first ∷ l.links
led-way tree is exits a b l = rw (l.from, l.to) (sym (leads_are_ways tree is exits a b l))

pub led-is_way : (tree : Plan) (is : IsTree tree) (exits : Exits) (a b : Epid) (l : Leads tree exits a b) →
    IsWay tree.links (start_of tree.links l.first) l.target (l.first ∷ l.links)
led-is_way tree is exits a b l =
    leads_along_ways tree is exits b l.first l.target l.links (links_leave_by_ports tree l.first l.source 0 l.out).2 l.way

-- ---- no queue of a way comes twice

avoids-of : (f : ℕ → ℕ) (x : ℕ) (xs : List ℕ) → Avoids (f x) (map f xs) → Avoids x xs
avoids-of f x [] off = tt
avoids-of f x (y ∷ xs) off = (λ e. off.0 (ap f e), avoids-of f x xs off.1)

none_twice-of : (f : ℕ → ℕ) (xs : List ℕ) → NoneTwice (map f xs) → NoneTwice xs
none_twice-of f [] none = tt
none_twice-of f (x ∷ xs) none = (avoids-of f x xs none.0, none_twice-of f xs none.1)

avoids-queues : (vc x : ℕ) (xs : List ℕ) → Avoids x xs → Avoids (queue_of x vc) (queues_over vc xs)
avoids-queues vc x [] off = tt
avoids-queues vc x (y ∷ xs) off = (λ e. off.0 (omega (arith, e)), avoids-queues vc x xs off.1)

none_twice-queues : (vc : ℕ) (xs : List ℕ) → NoneTwice xs → NoneTwice (queues_over vc xs)
none_twice-queues vc [] none = tt
none_twice-queues vc (x ∷ xs) none = (avoids-queues vc x xs none.0, none_twice-queues vc xs none.1)

pub led-none_twice : (tree : Plan) (is : IsTree tree) (exits : Exits) (a b : Epid) (l : Leads tree exits a b) (vc : ℕ) →
    NoneTwice (queues_over vc (way_between tree a b))
led-none_twice tree is exits a b l vc =
    rw (led-way tree is exits a b l)
    (none_twice-queues vc (l.first ∷ l.links) (none_twice-of (end_of tree.links) (l.first ∷ l.links) (led-is_way tree is exits a b l).1.1))

-- ---- each is there

no_front : (before : List ℕ) (q : ℕ) (qs : List ℕ) → [] ≡ before ++ q ∷ qs → ⊥
no_front before q qs is =
    let n : 0 ≡ length before + length (q ∷ qs) = ap length is ∙ length-append before (q ∷ qs) in omega (arith, n)

in_range : (links : List LinkPlan) (k a b vc : ℕ) (ds before : List ℕ) (q : ℕ) (behind : List ℕ) → vc < 2 → Walks links k a b ds →
    queues_over vc ds ≡ before ++ q ∷ behind → q < 2 * (2 * k)
in_range links k a b vc [] before q behind small walks is = absurd (no_front before q behind is)
in_range links k a b vc (d ∷ ds) [] q behind small walks is =
    let h : queue_of d vc ≡ q = ap (λ xs. get_or xs 0 0) is in
    let l : d < 2 * k = walks.0 in
    omega (arith, h, l, small)
in_range links k a b vc (d ∷ ds) (x ∷ before) q behind small walks is =
    in_range links k (end_of links d) b vc ds before q behind small walks.2 (ap (drop 1) is)

pub over-queues : WaysAreOverQueues
over-queues w a b vc small has l = record {
  once = led-none_twice w.tree has.tree (exits_of w.nodes) a b l vc;
  there = λ before q behind is. rw has.queues
      (in_range w.tree.links (length w.tree.links) (start_of w.tree.links l.first) l.target vc (l.first ∷ l.links) before q behind small
      (led-is_way w.tree has.tree (exits_of w.nodes) a b l).0
      (ap (queues_over vc) (sym (led-way w.tree has.tree (exits_of w.nodes) a b l)) ∙ is));
}

pub ways-begin : WaysBegin
ways-begin w a b vc has l = record {
  link = l.first;
  behind = queues_over vc l.links;
  first = rw l.from l.out;
  way = ap (queues_over vc) (led-way w.tree has.tree (exits_of w.nodes) a b l);
}

-- ---- from one queue of the way to the next

pub record Step (tree : Plan) (exits : Exits) (dst : Epid) (vc q r : ℕ) : Type 0 where
  pub over : ℕ
  pub next : ℕ
  pub is_over : q ≡ queue_of over vc
  pub is_next : r ≡ queue_of next vc
  pub sent : sent_on tree exits dst over ≡ Some next

pub led-next : (tree : Plan) (exits : Exits) (dst : Epid) (vc d : ℕ) (ds : List ℕ) (z : ℕ) (before : List ℕ) (q r : ℕ) (behind : List ℕ) →
    LeadsOver tree exits dst d ds z → queues_over vc (d ∷ ds) ≡ before ++ q ∷ r ∷ behind → Step tree exits dst vc q r
led-next tree exits dst vc d [] z [] q r behind leads is = absurd (no_front [] r behind (ap (drop 1) is))
led-next tree exits dst vc d (e ∷ ds) z [] q r behind leads is = record {
  over = d;
  next = e;
  is_over = sym (ap (λ xs. get_or xs 0 0) is);
  is_next = sym (ap (λ xs. get_or xs 1 0) is);
  sent = leads.0;
}
led-next tree exits dst vc d [] z (x ∷ before) q r behind leads is = absurd (no_front before q (r ∷ behind) (ap (drop 1) is))
led-next tree exits dst vc d (e ∷ ds) z (x ∷ before) q r behind leads is =
    led-next tree exits dst vc e ds z before q r behind leads.1 (ap (drop 1) is)

-- the last queue of the way ends at the node led to
pub record Last (tree : Plan) (vc q z : ℕ) : Type 0 where
  pub over : ℕ
  pub is_over : q ≡ queue_of over vc
  pub ends : end_of tree.links over ≡ z

no_more : (x : ℕ) (xs : List ℕ) → x ∷ xs ≡ [] → ⊥
no_more x xs is = cc

pub led-last : (tree : Plan) (exits : Exits) (dst : Epid) (vc d : ℕ) (ds : List ℕ) (z : ℕ) (before : List ℕ) (q : ℕ) →
    LeadsOver tree exits dst d ds z → queues_over vc (d ∷ ds) ≡ before ++ q ∷ [] → Last tree vc q z
led-last tree exits dst vc d [] z [] q leads is = record { over = d; is_over = sym (ap (λ xs. get_or xs 0 0) is); ends = leads }
led-last tree exits dst vc d (e ∷ ds) z [] q leads is = absurd (no_more (queue_of e vc) (queues_over vc ds) (ap (drop 1) is))
led-last tree exits dst vc d [] z (x ∷ before) q leads is = absurd (no_front before q [] (ap (drop 1) is))
led-last tree exits dst vc d (e ∷ ds) z (x ∷ before) q leads is =
    led-last tree exits dst vc e ds z before q leads.1 (ap (drop 1) is)

-- ---- of a way that a network leads

-- the step from one queue to the next
pub way-next : (w : State) (a b : Epid) (vc : ℕ) (before : List ℕ) (q r : ℕ) (behind : List ℕ) → HasQueues w → (l : IsLedTo w a b) →
    queues_over vc (way_between w.tree a b) ≡ before ++ q ∷ r ∷ behind → Step w.tree (exits_of w.nodes) b vc q r
way-next w a b vc before q r behind has l is =
    led-next w.tree (exits_of w.nodes) b vc l.first l.links l.target before q r behind l.way
    (ap (queues_over vc) (sym (led-way w.tree has.tree (exits_of w.nodes) a b l)) ∙ is)

-- the last queue
pub way-last : (w : State) (a b : Epid) (vc : ℕ) (before : List ℕ) (q : ℕ) → HasQueues w → (l : IsLedTo w a b) →
    queues_over vc (way_between w.tree a b) ≡ before ++ q ∷ [] → Last w.tree vc q l.target
way-last w a b vc before q has l is =
    led-last w.tree (exits_of w.nodes) b vc l.first l.links l.target before q l.way
    (ap (queues_over vc) (sym (led-way w.tree has.tree (exits_of w.nodes) a b l)) ∙ is)
