-- Writes along a way, one after another.
use Rattle.std.proofs.Common.{◌≡◌, ℕ, suc, ◌+◌, ◌-◌, ◌<◌, ◌≤◌, Bool, true, false, List, [], ◌∷◌, ◌++◌, length, map, refl, sym, ◌∙◌, ap, subst, arith, get_or, take, if◌then◌else◌}
use Rattle.std.specs.Prelude.{◌||◌, not, unwrap_or}
use Rattle.std.proofs.lemmas.Bool.{false≢true}
use Rattle.std.proofs.lemmas.List.{append-nil, append_assoc, length-map, length_push, take_all}
use Rattle.std.proofs.lemmas.List.Concat.{flat_map-append}
use Rattle.std.proofs.lemmas.List.Sums.{fold-append}
use Rattle.net_topology.specs.Links.{IsWay}
use Rattle.net_topology.specs.Parts.{way_of}
use Rattle.net_topology.specs.declared.plan.Plan.{Plan}
use Rattle.net_walks.proofs.Laws.{ways_are_short}
use Rattle.net_machine.specs.declared.event.Event.{Event}
use Rattle.net_machine.specs.Nodes.{exits_of}
use Rattle.net_machine.specs.State.{Node, State}
use Rattle.net_present.specs.Present.{Present}
use Rattle.net_lone.specs.Control.{loses_answer, loses_request}
use Rattle.net_lone.specs.Stages.{HavePlaces}
use Rattle.net_writes.specs.Routes.{HasRoute, IsRouteWritten, route_left}
use Rattle.net_writes.proofs.Laws.{routes_are_written, whole_routes_lead}
use Rattle.fabric_net.specs.Standing.{StandsFor}
use Rattle.host_talk.specs.Settled.{IsSettledNow}
use Rattle.walk_books.specs.declared.found.FoundNode.{FoundNode}
use Rattle.route_writes.specs.declared.steps.Step.{Step}
use Rattle.route_writes.specs.declared.writes.Ends.{Ends}
use Rattle.route_writes.specs.Planned.{IsCrossing, IsPlanned, route_at}
use Rattle.route_writes.specs.Routing.{HasLost, HasRouted, IsLosing, IsWrittenOver, entries, links_written, way_in}
use Rattle.route_writes.specs.Steps.{step_over}
use Rattle.route_writes.specs.Writes.{AreBetween, AreFirst, Desk, HasAsked, HasCrossed, Route, Write, crossed_between, journal_of, loses_answer_now, loses_request_now, wrote, wrote_all}
use Rattle.route_writes.proofs.Crossing.{answer-now, request-now}
use Rattle.route_writes.proofs.Paths.{way-found, way-listed}
use Rattle.route_writes.proofs.Splits.{Split, between-more, left-on, split-at}

-- ---- what is asked

asked-none : (route : Route) (desk : Desk) → IsSettledNow desk.net.present → HasAsked route [] desk desk
asked-none route desk settled = record {
  written = sym (append-nil desk.net.journal);
  each = λ w stands same. record {
    first = tt;
    stands = stands;
    banks = same;
  };
  settled = settled;
  same = refl;
  kept = refl;
}

first-then : (route : Route) (w : State) (ps qs : List Write) → AreFirst route w ps → AreFirst route (wrote_all route w ps) qs → AreFirst route w (ps ++ qs)
first-then route w [] qs a b = b
first-then route w (p ∷ ps) qs a b = (a.0, first-then route (wrote route w p) ps qs a.1 b)

asked-then : (route : Route) (ps qs : List Write) (s t u : Desk) → HasAsked route ps s t → HasAsked route qs t u → HasAsked route (ps ++ qs) s u
asked-then route ps qs s t u one two = record {
  written = two.written ∙ ap (λ (j : List Event). j ++ journal_of qs) one.written
      ∙ append_assoc s.net.journal (journal_of ps) (journal_of qs)
      ∙ ap (λ (j : List Event). s.net.journal ++ j) (sym (flat_map-append (λ (it : Write). it.journal) ps qs));
  each = λ w stands same.
      let here = one.each w stands same in
      let there = two.each (wrote_all route w ps) here.stands here.banks in
      let state : wrote_all route (wrote_all route w ps) qs ≡ wrote_all route w (ps ++ qs) = sym (fold-append (wrote route) w ps qs) in
      record {
        first = first-then route w ps qs here.first there.first;
        stands = subst (λ (v : State). StandsFor u.net.present v) state there.stands;
        banks = ap (λ (v : State). v.banks) (sym state) ∙ there.banks;
      };
  settled = two.settled;
  same = two.same ∙ one.same;
  kept = two.kept ∙ one.kept;
}

-- ---- what was lost

came-through : (m n : Bool) → true ≡ not (m || n) → m ≡ false
came-through true n is = absurd (false≢true (sym is))
came-through false n is = refl

-- its answer didn't come: the next request was to be lost, or the answer to it
losing-by : (p : Present) (w : State) → StandsFor p w → false ≡ not (loses_request_now p || loses_answer_now p) → IsLosing (loses_request_now p) w
losing-by p w stands none = by_both (loses_request_now p) (loses_answer_now p) (request-now p w stands) (answer-now p w stands) none
  where
    by_both : (m n : Bool) → loses_request w ≡ m → loses_answer w ≡ n → false ≡ not (m || n) → IsLosing m w
    by_both true n request answer is = request
    by_both false true request answer is = (request, answer)
    by_both false false request answer is = absurd (false≢true is)

-- ---- a planned route

-- how far the writes have come: the route is written at the nodes between its first links
pub record GoesOn (route : Route) (index count : ℕ) (old now : Desk) : Type 0 where
  pub writes : List Write
  pub asked : HasAsked route writes old now
  pub between : AreBetween (take index (way_in route)) writes
  pub number : count ≡ length writes
  pub nodes : now.net.present.nodes ≡ route_left route.tree route.x route.src route.a route.b (take index (way_in route)) old.net.present.nodes

module _ (tree : Plan) (nodes : List FoundNode) (ends : Ends) (steps : List Step) (it : IsPlanned tree nodes ends steps) where
  abbrev pub route : Route
  route = route_at tree ends

  way-is : way_of tree.links it.y it.z ≡ way_in route
  way-is = λ i. way_of tree.links (unwrap_or (sym it.route.from i) 0) (unwrap_or (sym it.route.to i) 0)

  is-way : IsWay tree.links it.y it.z (way_in route)
  is-way = subst (λ (ds : List ℕ). IsWay tree.links it.y it.z ds) way-is (way-found tree nodes it.found it.route.is_tree it.y it.z it.from it.to)

  steps-are : steps ≡ map (step_over tree) (way_in route)
  steps-are = it.made ∙ ap (λ (ds : List ℕ). map (step_over tree) ds) way-is

  long : length steps ≡ length (way_in route)
  long = ap (λ (ss : List Step). length ss) steps-are ∙ length-map (way_in route) (step_over tree)

  pub few : length steps ≤ 257
  few = omega (arith, long, ways_are_short tree it.y it.z (way_in route) it.route.is_tree it.route.fits is-way)

  pub split : (i : ℕ) → i + 1 < length steps → Split (way_in route) i
  split i lt = split-at (way_in route) i (omega (arith, long, lt))

  -- two steps, one after the other, cross a node
  pub crosses : (i : ℕ) (lt : i + 1 < length steps) (s : Step) → IsCrossing tree nodes ends (get_or steps i s) (get_or steps (i + 1) s) (split i lt).d (split i lt).e
  crosses i lt s =
      let at = split i lt in
      let next : i + 1 ≡ suc i = omega arith in
      record {
        found = it.found;
        y = it.y;
        z = it.z;
        route = it.route;
        start = it.start;
        target = way-listed tree nodes it.found it.route.is_tree it.y it.z it.from it.to at.front at.d (at.e ∷ at.rest) (way-is ∙ at.whole);
        front = at.front;
        rest = at.rest;
        way = subst (λ (ds : List ℕ). IsWay tree.links it.y it.z ds) at.whole is-way;
        here = ap (λ (ss : List Step). get_or ss i s) steps-are ∙ at.here (step_over tree) s;
        there = (λ j. get_or (steps-are j) (next j) s) ∙ at.there (step_over tree) s;
      }

  module _ (old : Desk) (same_tree : old.net.present.tree ≡ tree) (settled : IsSettledNow old.net.present) where
    -- the route as it is written between the first links
    route-over : (front behind : List ℕ) → way_in route ≡ front ++ behind →
        HasRoute tree ends.host ends.a ends.b front old.net.present.nodes (route_left tree ends.node ends.host ends.a ends.b front old.net.present.nodes)
    route-over front behind along =
        routes_are_written tree ends.node it.y it.z ends.host ends.a ends.b front behind old.net.present.nodes it.route
        (subst (λ (ds : List ℕ). IsWay tree.links it.y it.z ds) along is-way)
        (settled.nodes ∙ ap (λ (t : Plan). length t.nodes) same_tree)
        (subst (λ (t : Plan). HavePlaces t old.net.present.nodes) same_tree settled.places)

    pub goes-first : GoesOn route 1 0 old old
    goes-first = record {
      writes = [];
      asked = asked-none route old settled;
      between = by_way_between (way_in route);
      number = refl;
      nodes = by_way_nodes (way_in route);
    }
      where
        by_way_between : (ds : List ℕ) → AreBetween (take 1 ds) []
        by_way_between [] = tt
        by_way_between (d ∷ ds) = tt

        by_way_nodes : (ds : List ℕ) → old.net.present.nodes ≡ route_left tree ends.node ends.host ends.a ends.b (take 1 ds) old.net.present.nodes
        by_way_nodes [] = refl
        by_way_nodes (d ∷ ds) = refl

    -- one more node, whose answer came
    pub goes-next : (i count : ℕ) (lt : i + 1 < length steps) (now next : Desk) → GoesOn route (i + 1) count old now →
        HasCrossed route (split i lt).d (split i lt).e true now next → GoesOn route (i + 2) (count + 1) old next
    goes-next i count lt now next on crossed =
        let at = split i lt in
        let one : i + 1 ≡ suc i = omega arith in
        let two : suc (suc i) ≡ i + 2 = omega arith in
        let before : take (i + 1) (way_in route) ≡ at.front ++ at.d ∷ [] = ap (λ k. take k (way_in route)) one ∙ at.before in
        let after : at.front ++ at.d ∷ at.e ∷ [] ≡ take (i + 2) (way_in route) = sym at.after ∙ ap (λ k. take k (way_in route)) two in
        let w : Write = record { before = at.d; behind = at.e; journal = crossed.journal } in
        record {
          writes = on.writes ++ w ∷ [];
          asked = asked-then route on.writes (w ∷ []) old now next on.asked crossed.asked;
          between = subst (λ (ds : List ℕ). AreBetween ds (on.writes ++ w ∷ [])) after
              (between-more at.front at.d at.e on.writes crossed.journal crossed.lost (subst (λ (ds : List ℕ). AreBetween ds on.writes) before on.between));
          number = ap (λ n. n + 1) on.number ∙ sym (length_push on.writes w);
          nodes = crossed.nodes ∙ (λ j. if came-through (loses_request_now now.net.present) (loses_answer_now now.net.present) crossed.back j then now.net.present.nodes else crossed_between route at.d at.e now.net.present.nodes)
              ∙ ap (crossed_between route at.d at.e) (on.nodes ∙ ap (λ (ds : List ℕ). left_over ds) before)
              ∙ sym (left-on tree ends.node ends.host ends.a ends.b at.front at.d at.e old.net.present.nodes) ∙ ap (λ (ds : List ℕ). left_over ds) after;
        }
      where
        left_over : List ℕ → List Node
        left_over ds = route_left tree ends.node ends.host ends.a ends.b ds old.net.present.nodes

    -- the route, as the nodes are when they are those of some first links
    route-now : (front behind : List ℕ) (now : Desk) → way_in route ≡ front ++ behind →
        now.net.present.nodes ≡ route_left tree ends.node ends.host ends.a ends.b front old.net.present.nodes → IsWrittenOver route front old now
    route-now front behind now along is =
        let it = route-over front behind along in
        record {
          nodes = is;
          written = subst (λ (ns : List Node). IsRouteWritten tree (exits_of ns) ends.a ends.b front) (sym is) it.written;
          others = λ y epid not_a not_b not_src. ap (λ (ns : List Node). exits_of ns y epid) is ∙ it.others y epid not_a not_b not_src;
        }

    -- one node whose answer didn't come
    pub goes-lost : (i count : ℕ) (lt : i + 1 < length steps) (s : Step) (now next : Desk) → GoesOn route (i + 1) count old now →
        HasCrossed route (split i lt).d (split i lt).e false now next → HasLost route (get_or steps i s).node old next
    goes-lost i count lt s now next on crossed =
        let at = split i lt in
        let one : i + 1 ≡ suc i = omega arith in
        let before : take (i + 1) (way_in route) ≡ at.front ++ at.d ∷ [] = ap (λ k. take k (way_in route)) one ∙ at.before in
        let w : Write = record { before = at.d; behind = at.e; journal = crossed.journal } in
        let now_nodes : now.net.present.nodes ≡ left_over (at.front ++ at.d ∷ []) = on.nodes ∙ ap (λ (ds : List ℕ). left_over ds) before in
        record {
          before = at.front;
          d = at.d;
          e = at.e;
          behind = at.rest;
          way = at.whole;
          node = sym (ap (λ (t : Step). t.node) (ap (λ (ss : List Step). get_or ss i s) steps-are ∙ at.here (step_over tree) s));
          writes = on.writes;
          last = w;
          asked = asked-then route on.writes (w ∷ []) old now next on.asked crossed.asked;
          between = subst (λ (ds : List ℕ). AreBetween ds on.writes) before on.between;
          at = (refl, refl);
          lost = crossed.lost;
          request = loses_request_now now.net.present;
          losing = λ v stands same. losing-by now.net.present (wrote_all route v on.writes) (on.asked.each v stands same).stands crossed.back;
          left = by_loss at now_nodes (loses_request_now now.net.present) crossed.nodes;
        }
      where
        left_over : List ℕ → List Node
        left_over ds = route_left tree ends.node ends.host ends.a ends.b ds old.net.present.nodes

        by_loss : (at : Split (way_in route) i) → now.net.present.nodes ≡ left_over (at.front ++ at.d ∷ []) → (request : Bool) →
            next.net.present.nodes ≡ (if request then now.net.present.nodes else crossed_between route at.d at.e now.net.present.nodes) →
            IsWrittenOver route (links_written request at.front at.d at.e) old next
        by_loss at now_nodes false done =
            route-now (at.front ++ at.d ∷ at.e ∷ []) at.rest next (at.whole ∙ sym (append_assoc at.front (at.d ∷ at.e ∷ []) at.rest))
            (done ∙ ap (crossed_between route at.d at.e) now_nodes ∙ sym (left-on tree ends.node ends.host ends.a ends.b at.front at.d at.e old.net.present.nodes))
        by_loss at now_nodes true none =
            route-now (at.front ++ at.d ∷ []) (at.e ∷ at.rest) next (at.whole ∙ sym (append_assoc at.front (at.d ∷ []) (at.e ∷ at.rest))) (none ∙ now_nodes)

    -- all of them
    pub goes-all : (index count : ℕ) (now : Desk) → length steps ≤ index → GoesOn route index count old now → HasRouted route count old now
    goes-all index count now all on =
        let whole : take index (way_in route) ≡ way_in route = take_all index (way_in route) (omega (arith, all, long)) in
        let left = route-now (way_in route) [] now (sym (append-nil (way_in route)))
        (on.nodes ∙ ap (λ (ds : List ℕ). route_left tree ends.node ends.host ends.a ends.b ds old.net.present.nodes) whole) in
        record {
          writes = on.writes;
          asked = on.asked;
          between = subst (λ (ds : List ℕ). AreBetween ds on.writes) whole on.between;
          number = on.number;
          left = left;
          leads = whole_routes_lead tree (entries now) it.y it.z ends.a ends.b it.route.is_tree it.route.from it.route.to it.route.other
              (subst (λ (ds : List ℕ). IsRouteWritten tree (entries now) ends.a ends.b ds) (sym way-is) left.written);
        }

    -- ---- as the call goes on

    lt-of : (index : ℕ) → 1 ≤ index → index < length steps → (index - 1) + 1 < length steps
    lt-of index some lt = omega (arith, some, lt)

    crossing-at : (index : ℕ) (some : 1 ≤ index) (lt : index < length steps) (s : Step) →
        IsCrossing tree nodes ends (get_or steps (index - 1) s) (get_or steps index s) (split (index - 1) (lt-of index some lt)).d (split (index - 1) (lt-of index some lt)).e
    crossing-at index some lt s =
        let at = split (index - 1) (lt-of index some lt) in
        let same : (index - 1) + 1 ≡ index = omega (arith, some) in
        subst (λ n. IsCrossing tree nodes ends (get_or steps (index - 1) s) (get_or steps n s) at.d at.e) same (crosses (index - 1) (lt-of index some lt) s)

    now-tree : (index count : ℕ) (now : Desk) → GoesOn route index count old now → now.net.present.tree ≡ tree
    now-tree index count now on = on.asked.same ∙ same_tree

    -- two steps cross a node of the net as it is now
    pub can-go : (index count : ℕ) (now : Desk) → 1 ≤ index → index < length steps → (s : Step) → GoesOn route index count old now →
        (d : ℕ) × (e : ℕ) × IsCrossing now.net.present.tree nodes ends (get_or steps (index - 1) s) (get_or steps index s) d e
    can-go index count now some lt s on =
        let at = split (index - 1) (lt-of index some lt) in
        (at.d, at.e, subst (λ (t : Plan). IsCrossing t nodes ends (get_or steps (index - 1) s) (get_or steps index s) at.d at.e) (sym (now-tree index count now on)) (crossing-at index some lt s))

    -- what a call for these two steps did
    abbrev pub Crossed : ℕ → Step → Bool → Desk → Desk → Type 0
    Crossed index s came now next = (d : ℕ) (e : ℕ) → IsCrossing now.net.present.tree nodes ends (get_or steps (index - 1) s) (get_or steps index s) d e →
        HasCrossed (route_at now.net.present.tree ends) d e came now next

    crossed-at : (index count : ℕ) (some : 1 ≤ index) (lt : index < length steps) (s : Step) (came : Bool) (now next : Desk) → GoesOn route index count old now →
        Crossed index s came now next → HasCrossed route (split (index - 1) (lt-of index some lt)).d (split (index - 1) (lt-of index some lt)).e came now next
    crossed-at index count some lt s came now next on each =
        let at = split (index - 1) (lt-of index some lt) in
        subst (λ (t : Plan). (d : ℕ) (e : ℕ) → IsCrossing t nodes ends (get_or steps (index - 1) s) (get_or steps index s) d e → HasCrossed (route_at t ends) d e came now next)
        (now-tree index count now on) each at.d at.e (crossing-at index some lt s)

    from-index : (index count : ℕ) (now : Desk) → 1 ≤ index → GoesOn route index count old now → GoesOn route ((index - 1) + 1) count old now
    from-index index count now some on =
        let same : index ≡ (index - 1) + 1 = omega (arith, some) in
        subst (λ n. GoesOn route n count old now) same on

    pub went-on : (index count : ℕ) (s : Step) (came : Bool) (now next : Desk) → 1 ≤ index → index < length steps → GoesOn route index count old now → Crossed index s came now next →
        came ≡ true → GoesOn route (index + 1) (count + 1) old next
    went-on index count s came now next some lt on each is =
        let same : (index - 1) + 2 ≡ index + 1 = omega (arith, some) in
        let at = split (index - 1) (lt-of index some lt) in
        subst (λ n. GoesOn route n (count + 1) old next) same
        (goes-next (index - 1) count (lt-of index some lt) now next (from-index index count now some on)
        (subst (λ b. HasCrossed route at.d at.e b now next) is (crossed-at index count some lt s came now next on each)))

    pub was-lost : (index count : ℕ) (s : Step) (came : Bool) (now next : Desk) → 1 ≤ index → index < length steps → GoesOn route index count old now → Crossed index s came now next →
        came ≡ false → HasLost route (get_or steps (index - 1) s).node old next
    was-lost index count s came now next some lt on each is =
        let at = split (index - 1) (lt-of index some lt) in
        goes-lost (index - 1) count (lt-of index some lt) s now next (from-index index count now some on)
        (subst (λ b. HasCrossed route at.d at.e b now next) is (crossed-at index count some lt s came now next on each))
