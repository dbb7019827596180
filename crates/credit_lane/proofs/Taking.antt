-- Each kind of step of the taker keeps the rule, and so does the load of a seat that is both ends.
use Rattle.std.proofs.Common.{◌≡◌, ◌≢◌, ℕ, ◌+◌, ◌%◌, ◌<◌, ◌≤◌, true, false, List, [], ◌∷◌, ◌++◌, length}
use Rattle.std.proofs.Common.{set, slice_index, slice_get, Option, Some, None, option_to_list, refl}
use Rattle.std.proofs.Common.{sym, ap, subst, ◌∙◌, length-append, length-set, mod-lt, true≢false, arith}
use mathlib.Core.List.{IsPrefix}
use mathlib.Core.Option.{none, some}
use native.Mathlib.Decide.{ℕ_discrete}
use native.Mathlib.Nat.{add-mod_right}
use lib.ListN.{get_elem?}
use Rattle.std.proofs.lemmas.Option.{slice_get_past}
use Rattle.atomic_table.specs.Table.{step, keeps, takes, gives, Allows}
use Rattle.atomic_table.proofs.Lists.{set_here, set_else}
use Rattle.chdr_packets.specs.declared.packet.Packet.{Packet}
use Rattle.credit_lane.specs.declared.plan.LanePlan.{LanePlan}
use Rattle.credit_lane.specs.declared.rule.View.{View}
use Rattle.credit_lane.specs.Planned.{IsPlanned}
use Rattle.credit_lane.specs.Rule.{Homes, Course, IsCourse, IsLane}
use Rattle.credit_lane.specs.Plays.{Seated, emptying, emptied, knows_put, next_of, takes_full}
use Rattle.credit_lane.specs.Plays.{gives_empty, sees_put, compares}
use Rattle.credit_lane.proofs.Prefixes.{begins_itself, begins_grown, begins_longer, no_longer}
use Rattle.credit_lane.proofs.Prefixes.{get_in_longer, begins_next, apart}
use Rattle.credit_lane.proofs.Steps.{Goes, after, by_taker, is_by_taker, beside_taker, same_put}
use Rattle.credit_lane.proofs.Steps.{same_taken, unmoved}

module _ (plan : LanePlan) where
  -- a full slot comes to the taker
  slot_leaves : (m : ℕ) (words words' : List ℕ) (homes : Homes) (c : Course)
      → words' ≡ length c.put ∷ length c.got ∷ [] → length c.got < length c.put → 0 < m
      → IsCourse plan m words homes c
      → IsCourse plan m words' (set homes (length c.got % m) none) record c { empties = true }
  slot_leaves m words words' homes c counts more pos st = record {
    counts = counts;
    order = st.order;
    near = st.near;
    planned = st.planned;
    filling = st.filling;
    emptying = λ _. more;
    slots = λ k lo hi nf ne. set_else homes (length c.got % m) (k % m) none
        (apart (length c.got) m k (length c.got) lo hi (omega arith) (omega arith) (ne refl))
        ∙ st.slots k lo hi nf (λ _. ne refl);
  }

  pub empty_keeps : (n id : ℕ) (me : Seated) → me.0.takes ≡ true → me.0.empties ≡ false
      → length me.0.got < length me.0.put
      → Allows (IsLane plan) n id me 1 (λ k. k) (λ k w. takes_full (step n 1 0 0 none) me w)
  empty_keeps n id me takes' free more s r wide at _ =
      let c = r.course in
      let kn = r.seats id me.0 at in
      let mine = kn.taking takes' in
      let m : ℕ = length s.homes in
      let g : ℕ = length me.0.got in
      let seen = no_longer me.0.put c.put kn.put_seen in
      let st = subst (IsCourse plan m s.words s.homes)
      (is_by_taker plan c id me.0 kn takes') r.stands in let words' : List ℕ = set s.words 1
      (slice_index s.words 1) in
      let near : length c.put ≤ g + m = st.near in
      let pos : 0 < m = omega arith in
      let full : g < length c.put = omega arith in
      subst (λ (z : ℕ). Goes plan s 1 (slice_index s.words 1) id me
      (λ w. takes_full (step z 1 0 0 none) me w)) wide (
        emptying me.0,
        takes (g % m) (next_of me.0),
        st.slots g (omega arith) (omega arith) (λ f same. absurd (omega arith))
            (λ e. absurd (true≢false (sym e ∙ free)))
            ∙ ap (λ (o : Option Packet). some (some o))
            (sym (get_in_longer me.0.put c.put g kn.put_seen more)),
        after plan s r id (emptying me.0) words' (set s.homes (g % m) none) _
            (length-set s.homes (g % m) none)
            (slot_leaves m s.words words' s.homes (by_taker plan id me.0 c)
            (same_taken s.words (length c.put) g st.counts) full pos st)
            record {
              put_seen = kn.put_seen;
              got_seen = begins_itself me.0.got;
              put_heard = kn.put_heard;
              got_heard = subst (IsPrefix me.0.heard_got) (sym mine.2) kn.got_heard;
              putting = kn.putting;
              taking = λ _. (refl, mine.1, refl, refl, λ _. more);
            }
            (beside_taker plan c id me.0.got true mine.0
            (subst (IsPrefix c.got) (sym mine.2) (begins_itself c.got))),
        refl,
      )

  found_empty : (m g : ℕ) (homes : Homes) (put : List Packet) (k : ℕ) → 0 < m → length homes ≡ m
      → length put ≤ g + m
      → (k ≢ g + m → get_elem? homes (k % m) ≡ some (some (slice_get put k))) →
      (k ≢ g + m → k % m ≢ g % m) → Dec (k ≡ g + m)
      → get_elem? (set homes (g % m) (some None)) (k % m) ≡ some (some (slice_get put k))
  found_empty m g homes put k pos long near other away (yes e) =
      ap (get_elem? (set homes (g % m) (some None))) (ap (λ (z : ℕ). z % m) e ∙ add-mod_right g m)
      ∙ set_here homes (g % m) (some None) (let h = mod-lt g pos in omega arith)
      ∙ ap (λ (o : Option Packet). some (some o)) (sym (slice_get_past put k (omega arith)))
  found_empty m g homes put k pos long near other away (no ne) = set_else homes (g % m) (k % m)
      (some None) (away ne) ∙ other ne

  -- the taker's slot comes home empty
  slot_empty : (m : ℕ) (words words' : List ℕ) (homes : Homes) (c : Course) (y : Packet)
      → length homes ≡ m → words' ≡ length c.put ∷ (length c.got + 1) ∷ [] → length c.got < length c.put
      → slice_get c.put (length c.got) ≡ Some y → IsCourse plan m words homes c
      → IsCourse plan m words' (set homes (length c.got % m)
      (some None)) record c { got = c.got ++ y ∷ []; empties = false }
  slot_empty m words words' homes c y long counts more next st = let one : length
      (c.got ++ y ∷ []) ≡ length c.got + 1 = length-append c.got (y ∷ []) in let near = st.near in
      record {
        counts = counts ∙ ap (λ (z : ℕ). length c.put ∷ z ∷ []) (sym one);
        order = begins_next c.got c.put y st.order next;
        near = omega arith;
        planned = st.planned;
        filling = λ f. let lt = st.filling f in omega arith;
        emptying = λ e. absurd (true≢false (sym e));
        slots = λ k lo hi nf ne. found_empty m (length c.got) homes c.put k (omega arith) long near
            (λ other. st.slots k (omega arith) (omega arith) nf (λ _ same. absurd (omega arith)))
            (λ other. apart (length c.got) m k (length c.got) (omega arith) (omega arith) (omega arith)
            (omega arith) (λ same. omega arith))
            (ℕ_discrete k (length c.got + m));
      }

  pub release_keeps : (n id : ℕ) (me : Seated) (v : View) (y : Packet) (i new : ℕ) → me ≡
      (emptying v, (i, None) ∷ []) → v.takes ≡ true → i ≡ length v.got % n → new ≡ length v.got + 1
      → length v.got < length v.put → next_of v ≡ Some y → Allows (IsLane plan) n id me 1 (λ _. new)
      (λ k w. gives_empty me w)
  release_keeps n id me v y i new is takes' slot more near next =
      subst (λ (z : Seated). Allows (IsLane plan) n id z 1 (λ _. new) (λ k w. gives_empty z w))
      (sym is) (λ s r wide at _. let c = r.course in
      let kn = r.seats id (emptying v) at in
      let mine = kn.taking takes' in
      let m : ℕ = length s.homes in
      let g : ℕ = length v.got in
      let seen = no_longer v.put c.put kn.put_seen in
      let st = subst (IsCourse plan m s.words s.homes)
      (is_by_taker plan c id (emptying v) kn takes') r.stands in
      let words' : List ℕ = set s.words 1 new in
      let slot' : i ≡ g % m = slot ∙ ap (λ (z : ℕ). g % z) (sym wide) in
      let w : View = emptied (emptying v) (y ∷ []) in (
        w,
        gives,
        tt,
        subst (λ (z : ℕ). IsLane plan record {
          words = words';
          homes = set s.homes z
              (some None);
          views = set s.views id w;
        }) (sym slot')
            (after plan s r id w words' (set s.homes (g % m) (some None)) _
            (length-set s.homes (g % m) (some None))
            (slot_empty m s.words words' s.homes (by_taker plan id (emptying v) c) y refl
            (ap (λ (l : List ℕ). set l 1 new) st.counts ∙ ap
            (λ (z : ℕ). length c.put ∷ z ∷ []) more)
            (let h : g < length c.put = omega arith in h)
            (sym (get_in_longer v.put c.put g kn.put_seen near) ∙ next) st)
            record {
              put_seen = kn.put_seen;
              got_seen = begins_itself (v.got ++ y ∷ []);
              put_heard = kn.put_heard;
              got_heard = begins_longer v.heard_got v.got (y ∷ [])
                  (subst (IsPrefix v.heard_got) (sym mine.2) kn.got_heard);
              putting = kn.putting;
              taking = λ _. (refl, mine.1, refl, refl, λ e. absurd (true≢false (sym e)));
            }
            (beside_taker plan c id (v.got ++ y ∷ []) false mine.0
            (subst (λ (l : List Packet). IsPrefix l (v.got ++ y ∷ [])) mine.2
            (begins_grown v.got (y ∷ []))))),
        ap (λ (o : Option Packet). (emptied (emptying v) (option_to_list o), [])) (sym next),
      ))

  pub put_keeps : (n id : ℕ) (me : Seated) → me.0.takes ≡ true → Allows (IsLane plan) n id me 0
      (λ k. k) (λ k w. sees_put (step n 0 0 0 none) me k w)
  put_keeps n id me takes' s r wide at _ =
      let c = r.course in
      let kn = r.seats id me.0 at in
      let mine = kn.taking takes' in (
        knows_put me.0 c.put,
        keeps,
        tt,
        unmoved plan s r id (set s.words 0 (slice_index s.words 0)) (knows_put me.0 c.put)
            (same_put s.words (length c.put) (length c.got) r.stands.counts)
            record {
              put_seen = begins_itself c.put;
              got_seen = kn.got_seen;
              put_heard = kn.put_heard;
              got_heard = kn.got_heard;
              putting = λ t. let other = kn.putting t in (other.0, other.1, refl, other.3);
              taking = λ t. let own = kn.taking t in (
                own.0,
                own.1,
                own.2,
                own.3,
                λ e. let lt = own.4 e in let seen = no_longer me.0.put c.put kn.put_seen in
                    omega arith,
              );
            },
        (
          refl,
          sym (ap (λ (l : List ℕ). slice_index l 0) r.stands.counts),
          kn.put_seen,
          subst (λ (l : List Packet). IsPrefix l c.put) (sym mine.2) r.stands.order,
          subst (λ (p : LanePlan). IsPlanned p c.put) (sym mine.1) r.stands.planned,
          subst (λ (l : List Packet). length c.put ≤ length l + n) (sym mine.2)
              (subst (λ (z : ℕ). length c.put ≤ length c.got + z) wide r.stands.near),
        ),
      )

  pub compare_keeps : (n id : ℕ) (me : Seated) → me.0.puts ≡ true → me.0.takes ≡ true → Allows
      (IsLane plan) n id me 0 (λ k. k) (λ k w. compares (step n 0 0 0 none) me w)
  compare_keeps n id me puts takes' s r wide at _ =
      let c = r.course in
      let kn = r.seats id me.0 at in
      let put_is = (kn.putting puts).2 in
      let got_is = (kn.taking takes').2 in (
        me.0,
        keeps,
        tt,
        unmoved plan s r id (set s.words 0 (slice_index s.words 0)) me.0
            (same_put s.words (length c.put) (length c.got) r.stands.counts) kn,
        (
          refl,
          subst (λ (l : List Packet). IsPrefix l me.0.put) (sym got_is)
              (subst (IsPrefix c.got) (sym put_is) r.stands.order),
          subst (λ (l : List Packet). length me.0.put ≤ length l + n) (sym got_is)
              (subst (λ (l : List Packet). length l ≤ length c.got + n) (sym put_is)
              (subst (λ (z : ℕ). length c.put ≤ length c.got + z) wide r.stands.near)),
          subst (IsPrefix me.0.heard_put) (sym put_is) kn.put_heard,
          subst (IsPrefix me.0.heard_got) (sym got_is) kn.got_heard,
        ),
      )
