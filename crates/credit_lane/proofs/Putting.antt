-- Each kind of step of the putter keeps the rule.
use Rattle.std.proofs.Common.{◌≡◌, ◌≢◌, ℕ, ◌+◌, ◌%◌, ◌<◌, true, false, List, [], ◌∷◌, ◌++◌, length, set}
use Rattle.std.proofs.Common.{slice_index, slice_get, Option, Some, None, refl, sym, ap, subst, ◌∙◌}
use Rattle.std.proofs.Common.{length-append, length-set, mod-lt, true≢false, arith}
use mathlib.Core.List.{IsPrefix}
use mathlib.Core.Option.{none, some}
use native.Mathlib.Decide.{ℕ_discrete}
use lib.ListN.{get_elem?}
use Rattle.std.proofs.lemmas.Option.{slice_get_past}
use Rattle.atomic_table.specs.Table.{step, keeps, takes, gives, Allows}
use Rattle.atomic_table.proofs.Lists.{set_here, set_else}
use Rattle.chdr_packets.specs.declared.packet.Packet.{Packet}
use Rattle.credit_lane.specs.declared.plan.LanePlan.{LanePlan}
use Rattle.credit_lane.specs.declared.plan.LanePlan.TheVariants.{Any, Producer}
use Rattle.credit_lane.specs.declared.rule.View.{View}
use Rattle.credit_lane.specs.Planned.{IsPlanned, IsNext}
use Rattle.block_library.specs.Producer.{produced}
use Rattle.credit_lane.specs.Rule.{Homes, Course, IsCourse, IsLane}
use Rattle.credit_lane.specs.Plays.{Seated, filling, filled, knows_taken, takes_empty, gives_full}
use Rattle.credit_lane.specs.Plays.{sees_taken}
use Rattle.credit_lane.proofs.Prefixes.{begins_itself, begins_grown, begins_longer, no_longer, get_last}
use Rattle.credit_lane.proofs.Prefixes.{get_apart, begins_next, apart}
use Rattle.credit_lane.proofs.Steps.{Goes, after, by_putter, is_by_putter, beside_putter, same_put}
use Rattle.credit_lane.proofs.Steps.{same_taken, unmoved}

pub fits_more : (plan : LanePlan) (put : List Packet) (x : Packet) → IsPlanned plan put
    → IsNext plan put x → IsPlanned plan (put ++ x ∷ [])
fits_more Any put x fits next = tt
fits_more (Producer t) put x fits next = begins_next put (produced t) x fits next

module _ (plan : LanePlan) where
  -- an empty slot comes to the putter
  slot_leaves : (m : ℕ) (words words' : List ℕ) (homes : Homes) (c : Course)
      → words' ≡ length c.put ∷ length c.got ∷ [] → length c.put < length c.got + m
      → IsCourse plan m words homes c
      → IsCourse plan m words' (set homes (length c.put % m) none) record c { fills = true }
  slot_leaves m words words' homes c counts near st = let low = no_longer c.got c.put st.order in
      record {
        counts = counts;
        order = st.order;
        near = st.near;
        planned = st.planned;
        filling = λ _. near;
        emptying = st.emptying;
        slots = λ k lo hi nf ne. set_else homes (length c.put % m) (k % m) none
            (apart (length c.got) m k (length c.put) lo hi low near (nf refl)) ∙ st.slots k lo hi
            (λ _. nf refl) ne;
      }

  pub fill_keeps : (n id : ℕ) (me : Seated) → me.0.puts ≡ true → me.0.fills ≡ false
      → length me.0.put < length me.0.got + n
      → Allows (IsLane plan) n id me 0 (λ k. k) (λ k w. takes_empty (step n 0 0 0 none) me w)
  fill_keeps n id me puts free room s r wide at _ =
      let c = r.course in
      let kn = r.seats id me.0 at in
      let mine = kn.putting puts in
      let m : ℕ = length s.homes in
      let p : ℕ = length me.0.put in
      let g : ℕ = length c.got in
      let behind = no_longer me.0.got c.got kn.got_seen in
      let st = subst (IsCourse plan m s.words s.homes) (is_by_putter plan c id me.0 kn puts) r.stands in
      let st_heard = subst (IsPrefix me.0.heard_put) (sym mine.2) kn.put_heard in
      let words' : List ℕ = set s.words 0 (slice_index s.words 0) in
      subst (λ (z : ℕ). p < length me.0.got + z → Goes plan s 0 (slice_index s.words 0) id me
      (λ w. takes_empty (step z 0 0 0 none) me w)) wide
      (λ near'. let near : p < g + m = omega arith in (
        filling me.0,
        takes (p % m) None,
        st.slots p (no_longer c.got me.0.put st.order) near (λ f. absurd (true≢false (sym f ∙ free)))
            (λ e same. let lt = st.emptying e in absurd (omega arith))
            ∙ ap (λ (o : Option Packet). some (some o)) (slice_get_past me.0.put p (omega arith)),
        after plan s r id (filling me.0) words' (set s.homes (p % m) none) _
            (length-set s.homes (p % m) none)
            (slot_leaves m s.words words' s.homes (by_putter plan id me.0 c)
            (same_put s.words p g st.counts) near st)
            record {
              put_seen = begins_itself me.0.put;
              got_seen = kn.got_seen;
              put_heard = st_heard;
              got_heard = kn.got_heard;
              putting = λ _. (refl, mine.1, refl, refl);
              taking = kn.taking;
            }
            (beside_putter plan c id me.0.put true mine.0
            (subst (IsPrefix c.put) (sym mine.2) (begins_itself c.put))),
        refl,
      )) room

  found_full : (m : ℕ) (homes : Homes) (put : List Packet) (x : Packet) (k : ℕ) → 0 < m
      → length homes ≡ m
      → (k ≢ length put → get_elem? homes (k % m) ≡ some (some (slice_get put k))) →
      (k ≢ length put → k % m ≢ length put % m) → Dec (k ≡ length put)
      → get_elem? (set homes (length put % m) (some (Some x))) (k % m) ≡ some
      (some (slice_get (put ++ x ∷ []) k))
  found_full m homes put x k pos long other away (yes e) =
      ap (λ (z : ℕ). get_elem? (set homes (length put % m) (some (Some x))) (z % m)) e ∙ set_here homes
      (length put % m) (some (Some x)) (let h = mod-lt (length put) pos in omega arith)
      ∙ ap (λ (o : Option Packet). some (some o))
      (sym (ap (slice_get (put ++ x ∷ [])) e ∙ get_last put x))
  found_full m homes put x k pos long other away (no ne) =
      set_else homes (length put % m) (k % m) (some (Some x)) (away ne) ∙ other ne ∙ ap
      (λ (o : Option Packet). some (some o)) (sym (get_apart put x k ne))

  -- the putter's slot comes home with the packet x
  slot_full : (m : ℕ) (words words' : List ℕ) (homes : Homes) (c : Course) (x : Packet)
      → length homes ≡ m → words' ≡ (length c.put + 1) ∷ length c.got ∷ []
      → length c.put < length c.got + m
      → IsNext plan c.put x → IsCourse plan m words homes c
      → IsCourse plan m words' (set homes (length c.put % m)
      (some (Some x))) record c { put = c.put ++ x ∷ []; fills = false }
  slot_full m words words' homes c x long counts near next st =
      let low = no_longer c.got c.put st.order in
      let one : length (c.put ++ x ∷ []) ≡ length c.put + 1 = length-append c.put (x ∷ []) in record {
        counts = counts ∙ ap (λ (z : ℕ). z ∷ length c.got ∷ []) (sym one);
        order = begins_longer c.got c.put (x ∷ []) st.order;
        near = omega arith;
        planned = fits_more plan c.put x st.planned next;
        filling = λ f. absurd (true≢false (sym f));
        emptying = λ e. let lt = st.emptying e in omega arith;
        slots = λ k lo hi nf ne. found_full m homes c.put x k (omega arith) long
            (λ other. st.slots k lo hi (λ _. other) ne)
            (λ other. apart (length c.got) m k (length c.put) lo hi low near other)
            (ℕ_discrete k (length c.put));
      }

  pub publish_keeps : (n id : ℕ) (me : Seated) (v : View) (x : Packet) (i new : ℕ) → me ≡
      (filling v, (i, Some x) ∷ []) → v.puts ≡ true → i ≡ length v.put % n → new ≡ length v.put + 1
      → length v.put < length v.got + n → IsNext plan v.put x → Allows (IsLane plan) n id me 0
      (λ _. new) (λ k w. gives_full me w)
  publish_keeps n id me v x i new is puts slot more room next =
      subst (λ (z : Seated). Allows (IsLane plan) n id z 0 (λ _. new) (λ k w. gives_full z w)) (sym is)
      (λ s r wide at _. let c = r.course in
      let kn = r.seats id (filling v) at in
      let mine = kn.putting puts in
      let m : ℕ = length s.homes in
      let p : ℕ = length v.put in
      let g : ℕ = length c.got in
      let behind = no_longer v.got c.got kn.got_seen in
      let st = subst (IsCourse plan m s.words s.homes)
      (is_by_putter plan c id (filling v) kn puts) r.stands in
      let st_heard = subst (IsPrefix v.heard_put) (sym mine.2) kn.put_heard in
      let words' : List ℕ = set s.words 0 new in
      let near : p < g + m = omega arith in
      let slot' : i ≡ p % m = slot ∙ ap (λ (z : ℕ). p % z) (sym wide) in (
        filled (filling v) (x ∷ []),
        gives,
        tt,
        subst (λ (z : ℕ). IsLane plan record {
          words = words';
          homes = set s.homes z
              (some (Some x));
          views = set s.views id (filled (filling v) (x ∷ []));
        }) (sym slot')
            (after plan s r id (filled (filling v) (x ∷ [])) words'
            (set s.homes (p % m) (some (Some x))) _ (length-set s.homes (p % m) (some (Some x)))
            (slot_full m s.words words' s.homes (by_putter plan id (filling v) c) x refl
            (ap (λ (l : List ℕ). set l 0 new) st.counts ∙ ap
            (λ (z : ℕ). z ∷ g ∷ []) more) near next st)
            record {
              put_seen = begins_itself
                  (v.put ++ x ∷ []);
              got_seen = kn.got_seen;
              put_heard = begins_longer v.heard_put v.put
                  (x ∷ []) st_heard;
              got_heard = kn.got_heard;
              putting = λ _.
                  (refl, mine.1, refl, refl);
              taking = λ t. let o = kn.taking t in (
                o.0,
                o.1,
                o.2,
                o.3,
                λ e. let lt = o.4 e in let one = length-append v.put (x ∷ []) in omega arith,
              );
            }
            (beside_putter plan c id (v.put ++ x ∷ []) false mine.0
            (subst (λ (l : List Packet). IsPrefix l (v.put ++ x ∷ [])) mine.2
            (begins_grown v.put (x ∷ []))))),
        refl,
      ))

  pub taken_keeps : (n id : ℕ) (me : Seated) → me.0.puts ≡ true → Allows (IsLane plan) n id me 1
      (λ k. k) (λ k w. sees_taken me k w)
  taken_keeps n id me puts s r wide at _ =
      let c = r.course in
      let kn = r.seats id me.0 at in
      let mine = kn.putting puts in (
        knows_taken me.0 c.got,
        keeps,
        tt,
        unmoved plan s r id (set s.words 1 (slice_index s.words 1)) (knows_taken me.0 c.got)
            (same_taken s.words (length c.put) (length c.got) r.stands.counts)
            record {
              put_seen = kn.put_seen;
              got_seen = begins_itself c.got;
              put_heard = kn.put_heard;
              got_heard = kn.got_heard;
              putting = kn.putting;
              taking = λ t. let other = kn.taking t in (
                other.0,
                other.1,
                refl,
                other.3,
                λ e. subst (λ (l : List Packet). length l < length me.0.put) other.2 (other.4 e),
              );
            },
        (
          refl,
          sym (ap (λ (l : List ℕ). slice_index l 1) r.stands.counts),
          kn.got_seen,
          subst
              (IsPrefix c.got) (sym mine.2) r.stands.order,
        ),
      )
