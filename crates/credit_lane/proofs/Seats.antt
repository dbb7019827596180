-- The steps that make, part and join seats keep the rule.
use Rattle.std.proofs.Common.{◌≡◌, ◌≢◌, ℕ, zero, suc, ◌%◌, ◌<◌, ◌⊎◌, true, false, List, [], ◌∷◌, ◌++◌}
use Rattle.std.proofs.Common.{map, length, set, replicate, Option, None, inl, inr, refl, sym, ap, subst}
use Rattle.std.proofs.Common.{◌∙◌, ⊎_elim, length-set, mod-lt, true≢false, arith}
use mathlib.Core.List.{IsPrefix}
use mathlib.Core.Option.{some, some-injective, some-ne-none}
use lib.ListN.{get_elem?, length-map, length-replicate}
use Rattle.atomic_table.specs.Table.{Splits, Joins, opening}
use Rattle.atomic_table.proofs.Lists.{at_set, set_else}
use Rattle.chdr_packets.specs.declared.packet.Packet.{Packet}
use Rattle.credit_lane.specs.declared.plan.LanePlan.{LanePlan}
use Rattle.credit_lane.specs.declared.plan.LanePlan.TheVariants.{Any, Producer}
use Rattle.credit_lane.specs.declared.rule.View.{View}
use Rattle.credit_lane.specs.Planned.{IsPlanned}
use Rattle.block_library.specs.Producer.{produced}
use Rattle.credit_lane.specs.Rule.{Course, IsCourse, Knows, IsLane, opened, spent, putter_of, taker_of}
use Rattle.credit_lane.specs.Rule.{copy_of, joined}
use Rattle.credit_lane.proofs.Prefixes.{no_longer}
use Rattle.credit_lane.proofs.Steps.{Lanes}

at_end : {A : Type 0} (l : List A) (a b : A) (j : ℕ) → get_elem? (l ++ a ∷ []) j ≡ some b →
    (get_elem? l j ≡ some b) ⊎ ((j ≡ length l) × (a ≡ b))
at_end [] a b zero e = inr (refl, some-injective a b e)
at_end [] a b (suc j) e = absurd (some-ne-none b (sym e))
at_end (x ∷ xs) a b zero e = inl e
at_end (x ∷ xs) a b (suc j) e = ⊎_elim (λ (t : get_elem? xs j ≡ some b). inl t)
    (λ (t : (j ≡ length xs) × (a ≡ b)). inr (ap suc t.0, t.1)) (at_end xs a b j e)

nothing_begins : (xs : List Packet) → IsPrefix [] xs
nothing_begins xs = (xs, refl)

module _ (plan : LanePlan) where
  -- a new course of the seats alone
  abbrev seated : Course → ℕ → ℕ → Course
  seated c putter taker = record c { putter = putter; taker = taker }

  stays : (m : ℕ) (words : List ℕ) (homes : _) (c : Course) (putter taker : ℕ)
      → IsCourse plan m words homes c → IsCourse plan m words homes (seated c putter taker)
  stays m words homes c putter taker st =
      record {
        counts = st.counts;
        order = st.order;
        near = st.near;
        planned = st.planned;
        filling = st.filling;
        emptying = st.emptying;
        slots = st.slots;
      }

  -- one seat becomes two
  parted : (s : Lanes) (r : IsLane plan s) (id : ℕ) (left right : View) (c' : Course) → IsCourse plan
      (length s.homes) s.words s.homes c' → Knows plan c' id left → Knows plan c' (length s.views) right
      → ((j : ℕ) (v : View) → j ≢ id → Knows plan r.course j v → Knows plan c' j v)
      → IsLane plan record { words = s.words; homes = s.homes; views = set s.views id left ++ right ∷ [] }
  parted s r id left right c' st mine new others = record {
    course = c';
    stands = st;
    seats = λ j v e. ⊎_elim
        (λ (old : get_elem? (set s.views id left) j ≡ some v). ⊎_elim
        (λ t. subst (λ (x : View). Knows plan c' j x) t.1
        (subst (λ (k : ℕ). Knows plan c' k left) (sym t.0) mine))
        (λ t. others j v t.0 (r.seats j v t.1))
        (at_set s.views id j left v old))
        (λ (last : (j ≡ length (set s.views id left)) × (right ≡ v)).
        subst (λ (x : View). Knows plan c' j x) last.1
        (subst (λ (k : ℕ). Knows plan c' k right) (sym (last.0 ∙ length-set s.views id left)) new))
        (at_end (set s.views id left) right v j e);
  }

  pub taker_parts : (id : ℕ) (v : View) → v.takes ≡ true → Splits (IsLane plan) id v (putter_of v)
      (taker_of v)
  taker_parts id v takes s r at =
      let c = r.course in
      let kn = r.seats id v at in
      let mine = kn.taking takes in
      let new : ℕ = length s.views in
      parted s r id (putter_of v) (taker_of v) (seated c c.putter new)
      (stays (length s.homes) s.words s.homes c c.putter new r.stands)
      record {
        put_seen = kn.put_seen;
        got_seen = kn.got_seen;
        put_heard = nothing_begins c.put;
        got_heard = nothing_begins c.got;
        putting = kn.putting;
        taking = λ t. absurd (true≢false (sym t));
      }
      record {
        put_seen = kn.put_seen;
        got_seen = kn.got_seen;
        put_heard = nothing_begins c.put;
        got_heard = nothing_begins c.got;
        putting = λ t. absurd (true≢false (sym t));
        taking = λ _. (refl, mine.1, mine.2, mine.3, mine.4);
      }
      (λ j w ne k. record {
        put_seen = k.put_seen;
        got_seen = k.got_seen;
        put_heard = k.put_heard;
        got_heard = k.got_heard;
        putting = k.putting;
        taking = λ t. absurd (ne ((k.taking t).0 ∙ sym mine.0));
      })

  pub putter_parts : (id : ℕ) (v : View) → v.puts ≡ true → Splits (IsLane plan) id v (copy_of v)
      (putter_of v)
  putter_parts id v puts s r at =
      let c = r.course in
      let kn = r.seats id v at in
      let mine = kn.putting puts in
      let new : ℕ = length s.views in
      parted s r id (copy_of v) (putter_of v) (seated c new c.taker)
      (stays (length s.homes) s.words s.homes c new c.taker r.stands)
      record {
        put_seen = kn.put_seen;
        got_seen = kn.got_seen;
        put_heard = nothing_begins c.put;
        got_heard = nothing_begins c.got;
        putting = λ t. absurd (true≢false (sym t));
        taking = λ t. absurd (true≢false (sym t));
      }
      record {
        put_seen = kn.put_seen;
        got_seen = kn.got_seen;
        put_heard = nothing_begins c.put;
        got_heard = nothing_begins c.got;
        putting = λ _. (refl, mine.1, mine.2, mine.3);
        taking = λ t. absurd (true≢false (sym t));
      }
      (λ j w ne k. record {
        put_seen = k.put_seen;
        got_seen = k.got_seen;
        put_heard = k.put_heard;
        got_heard = k.got_heard;
        putting = λ t. absurd (ne ((k.putting t).0 ∙ sym mine.0));
        taking = k.taking;
      })

  knows_nothing : (c : Course) (j : ℕ) → Knows plan c j spent
  knows_nothing c j = record {
    put_seen = nothing_begins c.put;
    got_seen = nothing_begins c.got;
    put_heard = nothing_begins c.put;
    got_heard = nothing_begins c.got;
    putting = λ t. absurd (true≢false (sym t));
    taking = λ t. absurd (true≢false (sym t));
  }

  -- two seats become one, and the other is spent
  merged : (s : Lanes) (r : IsLane plan s) (id other : ℕ) (both : View) (c' : Course) → IsCourse plan
      (length s.homes) s.words s.homes c' → Knows plan c' id both
      → ((j : ℕ) (v : View) → j ≢ id → j ≢ other → Knows plan r.course j v → Knows plan c' j v)
      → IsLane plan record {
        words = s.words;
        homes = s.homes;
        views = set
            (set s.views id both) other spent;
      }
  merged s r id other both c' st mine others = record {
    course = c';
    stands = st;
    seats = λ j v e. ⊎_elim
        (λ (t : (j ≡ other) × (spent ≡ v)). subst (λ (x : View). Knows plan c' j x) t.1
        (knows_nothing c' j))
        (λ (t : (j ≢ other) × (get_elem? (set s.views id both) j ≡ some v)). ⊎_elim
        (λ u. subst (λ (x : View). Knows plan c' j x) u.1
        (subst (λ (k : ℕ). Knows plan c' k both) (sym u.0) mine))
        (λ u. others j v u.0 t.0 (r.seats j v u.1))
        (at_set s.views id j both v t.1))
        (at_set (set s.views id both) other j spent v e);
  }

  -- a taker's seat that goes into another
  beside_both : (c : Course) (id other : ℕ) → other ≡ c.taker → (j : ℕ) (v : View) → j ≢ id → j ≢ other
      → Knows plan c j v → Knows plan (seated c c.putter id) j v
  beside_both c id other is j v ne ne' k = record {
    put_seen = k.put_seen;
    got_seen = k.got_seen;
    put_heard = k.put_heard;
    got_heard = k.got_heard;
    putting = k.putting;
    taking = λ t. absurd (ne' ((k.taking t).0 ∙ sym is));
  }

  pub unite_keeps : (id : ℕ) (v : View) (other : ℕ) (w : View) → v.puts ≡ true → w.takes ≡ true → Joins
      (IsLane plan) id v other w (joined v w) spent
  unite_keeps id v other w puts takes s r at two at' =
      let c = r.course in
      let kn = r.seats id v at in
      let mine = kn.putting puts in
      let ko = r.seats other w (sym (set_else s.views id other (joined v w) two) ∙ at') in
      let its = ko.taking takes in
      merged s r id other (joined v w) (seated c c.putter id)
      (stays (length s.homes) s.words s.homes c c.putter id r.stands)
      record {
        put_seen = kn.put_seen;
        got_seen = ko.got_seen;
        put_heard = ko.put_seen;
        got_heard = kn.got_seen;
        putting = kn.putting;
        taking = λ _. (
          refl,
          mine.1,
          its.2,
          its.3,
          λ e. let lt = its.4 e in let seen = no_longer w.put c.put ko.put_seen in
              let same = ap length mine.2 in omega arith,
        );
      }
      (beside_both c id other its.0)

  pub take_over_keeps : (id : ℕ) (v : View) (other : ℕ) (w : View) → w.puts ≡ false → w.takes ≡ true
      → Joins (IsLane plan) id v other w w spent
  take_over_keeps id v other w idle takes s r at two at' = let c = r.course in
      let ko = r.seats other w (sym (set_else s.views id other w two) ∙ at') in
      let its = ko.taking takes in
      merged s r id other w (seated c c.putter id)
      (stays (length s.homes) s.words s.homes c c.putter id r.stands)
      record {
        put_seen = ko.put_seen;
        got_seen = ko.got_seen;
        put_heard = ko.put_heard;
        got_heard = ko.got_heard;
        putting = λ t. absurd (true≢false (sym t ∙ idle));
        taking = λ _. (refl, its.1, its.2, its.3, its.4);
      }
      (beside_both c id other its.0)

blank : (n i : ℕ) → i < n → get_elem? (map some (replicate {A = Option Packet} n None)) i ≡ some
    (some None)
blank zero i near = absurd (omega arith)
blank (suc n) zero near = refl
blank (suc n) (suc i) near = blank n i (omega arith)

pub fits_nothing : (plan : LanePlan) → IsPlanned plan []
fits_nothing Any = tt
fits_nothing (Producer t) = nothing_begins (produced t)

pub starts : (plan : LanePlan) (n : ℕ) → 0 < n → IsLane plan
    (opening (0 ∷ 0 ∷ []) (replicate n None) (opened plan))
starts plan n pos = let m : ℕ = length (map some (replicate {A = Option Packet} n None)) in
    let is : m ≡ n = length-map (replicate {A = Option Packet} n None) some ∙ length-replicate n None in
    let c : Course = record {
      put = [];
      got = [];
      putter = 0;
      taker = 0;
      fills = false;
      empties = false;
    } in record {
      course = c;
      stands = record {
        counts = refl;
        order = nothing_begins [];
        near = omega arith;
        planned = fits_nothing plan;
        filling = λ t. absurd (true≢false (sym t));
        emptying = λ t. absurd (true≢false (sym t));
        slots = λ k lo hi nf ne. blank n (k % m)
            (let h : k % m < m = mod-lt k (omega arith) in omega arith);
      };
      seats = λ j v e. ⊎_elim (λ (t : get_elem? [] j ≡ some v). absurd (some-ne-none v (sym t)))
          (λ (t : (j ≡ 0) × (opened plan ≡ v)). subst (λ (x : View). Knows plan c j x) t.1 record {
            put_seen = nothing_begins [];
            got_seen = nothing_begins [];
            put_heard = nothing_begins [];
            got_heard = nothing_begins [];
            putting = λ _. (t.0, refl, refl, refl);
            taking = λ _. (t.0, refl, refl, refl, λ e. absurd (true≢false (sym e)));
          })
          (at_end [] (opened plan) v j e);
    }
