-- Lists of links: two of them, one after the other, and what one more adds.
use Rattle.std.proofs.Common.{◌≡◌, ℕ, zero, suc, ◌+◌, ◌<◌, false, List, [], ◌∷◌, ◌++◌, length, map, refl, ap, arith, get_or, take}
use Rattle.chdr_words.specs.declared.epid.Epid.{Epid}
use Rattle.net_topology.specs.Links.{end_of}
use Rattle.net_topology.specs.Parts.{way_of}
use Rattle.net_topology.specs.declared.plan.Plan.{Plan}
use Rattle.net_machine.specs.declared.event.Event.{Event}
use Rattle.net_machine.specs.State.{Node}
use Rattle.net_writes.specs.Routes.{crossed_over, crossing_between, route_left}
use Rattle.route_writes.specs.declared.steps.Step.{Step}
use Rattle.route_writes.specs.Writes.{AreBetween, Write, is_lost}

-- ---- lists of links

-- two links of a list, one after the other
pub record Split (ds : List ℕ) (i : ℕ) : Type 0 where
  pub front : List ℕ
  pub d : ℕ
  pub e : ℕ
  pub rest : List ℕ
  pub whole : ds ≡ front ++ d ∷ e ∷ rest
  pub before : take (suc i) ds ≡ front ++ d ∷ []
  pub after : take (suc (suc i)) ds ≡ front ++ d ∷ e ∷ []
  pub here : (f : ℕ → Step) (s : Step) → get_or (map f ds) i s ≡ f d
  pub there : (f : ℕ → Step) (s : Step) → get_or (map f ds) (suc i) s ≡ f e

pub split-at : (ds : List ℕ) (i : ℕ) → i + 1 < length ds → Split ds i
split-at [] i lt = absurd (omega (arith, lt))
split-at (d ∷ []) i lt = absurd (omega (arith, lt))
split-at (d ∷ e ∷ ds) zero lt = record {
  front = [];
  d = d;
  e = e;
  rest = ds;
  whole = refl;
  before = refl;
  after = refl;
  here = λ f s. refl;
  there = λ f s. refl;
}
split-at (c ∷ d ∷ ds) (suc i) lt =
    let it = split-at (d ∷ ds) i (omega (arith, lt)) in
    record {
      front = c ∷ it.front;
      d = it.d;
      e = it.e;
      rest = it.rest;
      whole = ap (λ (es : List ℕ). c ∷ es) it.whole;
      before = ap (λ (es : List ℕ). c ∷ es) it.before;
      after = ap (λ (es : List ℕ). c ∷ es) it.after;
      here = it.here;
      there = it.there;
    }

-- ---- what is written

-- one write more
pub left-on : (tree : Plan) (x : ℕ) (src a b : Epid) (front : List ℕ) (d e : ℕ) (nodes : List Node) →
    route_left tree x src a b (front ++ d ∷ e ∷ []) nodes
    ≡ crossed_over tree src (way_of tree.links x (end_of tree.links d)) (crossing_between tree.links a b d e) (route_left tree x src a b (front ++ d ∷ []) nodes)
left-on tree x src a b [] d e nodes = refl
left-on tree x src a b (c ∷ []) d e nodes = refl
left-on tree x src a b (c ∷ f ∷ front) d e nodes =
    left-on tree x src a b (f ∷ front) d e (crossed_over tree src (way_of tree.links x (end_of tree.links c)) (crossing_between tree.links a b c f) nodes)

pub between-more : (front : List ℕ) (d e : ℕ) (writes : List Write) (journal : List Event) (loss : is_lost (record { before = d; behind = e; journal = journal }) ≡ false) →
    AreBetween (front ++ d ∷ []) writes → AreBetween (front ++ d ∷ e ∷ []) (writes ++ record { before = d; behind = e; journal = journal } ∷ [])
between-more [] d e [] journal loss between = (refl, refl, loss, tt)
between-more [] d e (w ∷ writes) journal loss between = absurd between
between-more (c ∷ []) d e [] journal loss between = absurd between
between-more (c ∷ []) d e (w ∷ writes) journal loss between = (between.0, between.1, between.2, between-more [] d e writes journal loss between.3)
between-more (c ∷ f ∷ front) d e [] journal loss between = absurd between
between-more (c ∷ f ∷ front) d e (w ∷ writes) journal loss between = (between.0, between.1, between.2, between-more (f ∷ front) d e writes journal loss between.3)
