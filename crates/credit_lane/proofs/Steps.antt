-- The rule of a lane after a step: what all kinds of step share.
use Rattle.std.proofs.Common.{◌≡◌, ◌≢◌, ℕ, Bool, true, List, [], ◌∷◌, length, set, slice_index, Option}
use Rattle.std.proofs.Common.{refl, sym, ap, subst, ◌∙◌, ⊎_elim}
use mathlib.Core.Path.{Path}
use mathlib.Core.List.{IsPrefix}
use Rattle.atomic_table.specs.Table.{State, Act, Valid, stepped, carried_after}
use Rattle.atomic_table.proofs.Lists.{at_set}
use Rattle.chdr_packets.specs.declared.packet.Packet.{Packet}
use Rattle.credit_lane.specs.declared.plan.LanePlan.{LanePlan}
use Rattle.credit_lane.specs.declared.rule.View.{View}
use Rattle.credit_lane.specs.Rule.{Homes, Course, IsCourse, Knows, IsLane}
use Rattle.credit_lane.specs.Plays.{Seated}
use Rattle.credit_lane.proofs.Prefixes.{begins_chain}

abbrev pub Lanes : Type 0
Lanes = State (Option Packet) View

module _ (plan : LanePlan) where
  -- the seat has a new view and an act that keep the rule, where the word i becomes `new`
  abbrev pub Goes : Lanes → ℕ → ℕ → ℕ → Seated → (Seated → Type 0) → Type 0
  Goes s i new id me told = (w : View) × (a : Act (Option Packet)) × Valid s.homes me.1 a × IsLane plan
      (stepped s i new id me.1 w a) × told (w, carried_after me.1 a)

  -- the lane after a step of the seat id
  pub after : (s : Lanes) (r : IsLane plan s) (id : ℕ) (w : View) (words' : List ℕ) (homes' : Homes)
      (c' : Course)
      → length homes' ≡ length s.homes → IsCourse plan (length s.homes) words' homes' c'
      → Knows plan c' id w
      → ((j : ℕ) (v : View) → j ≢ id → Knows plan r.course j v → Knows plan c' j v)
      → IsLane plan record { words = words'; homes = homes'; views = set s.views id w }
  after s r id w words' homes' c' as_long stands mine others = record {
    course = c';
    stands = subst (λ (n : ℕ). IsCourse plan n words' homes' c') (sym as_long) stands;
    seats = λ j v e. ⊎_elim
        (λ t. subst (λ (x : View). Knows plan c' j x) t.1
        (subst (λ (k : ℕ). Knows plan c' k w) (sym t.0) mine))
        (λ t. others j v t.0 (r.seats j v t.1))
        (at_set s.views id j w v e);
  }

  -- a course, as the view of one end tells it
  abbrev pub by_putter : ℕ → View → Course → Course
  by_putter id v c = record c { put = v.put; putter = id; fills = v.fills }

  abbrev pub by_taker : ℕ → View → Course → Course
  by_taker id v c = record c { got = v.got; taker = id; empties = v.empties }

  pub is_by_putter : (c : Course) (id : ℕ) (v : View) → Knows plan c id v → v.puts ≡ true
      → Path Course c (by_putter id v c)
  is_by_putter c id v kn puts = let p = kn.putting puts in
      λ i. record c { put = sym p.2 i; putter = sym p.0 i; fills = sym p.3 i }

  pub is_by_taker : (c : Course) (id : ℕ) (v : View) → Knows plan c id v → v.takes ≡ true
      → Path Course c (by_taker id v c)
  is_by_taker c id v kn takes = let p = kn.taking takes in
      λ i. record c { got = sym p.2 i; taker = sym p.0 i; empties = sym p.3 i }

  -- what the other seats know, when the putter has put more or the taker has taken more
  pub beside_putter : (c : Course) (id : ℕ) (put' : List Packet) (f : Bool) → id ≡ c.putter
      → IsPrefix c.put put' → (j : ℕ) (v : View) → j ≢ id → Knows plan c j v
      → Knows plan record c { put = put'; putter = id; fills = f } j v
  beside_putter c id put' f is grown j v ne kn = record {
    put_seen = begins_chain v.put c.put put' kn.put_seen grown;
    got_seen = kn.got_seen;
    put_heard = begins_chain v.heard_put c.put put' kn.put_heard grown;
    got_heard = kn.got_heard;
    putting = λ t. absurd (ne ((kn.putting t).0 ∙ sym is));
    taking = kn.taking;
  }

  pub beside_taker : (c : Course) (id : ℕ) (got' : List Packet) (e : Bool) → id ≡ c.taker
      → IsPrefix c.got got' → (j : ℕ) (v : View) → j ≢ id → Knows plan c j v
      → Knows plan record c { got = got'; taker = id; empties = e } j v
  beside_taker c id got' e is grown j v ne kn = record {
    put_seen = kn.put_seen;
    got_seen = begins_chain v.got c.got got' kn.got_seen grown;
    put_heard = kn.put_heard;
    got_heard = begins_chain v.heard_got c.got got' kn.got_heard grown;
    putting = kn.putting;
    taking = λ t. absurd (ne ((kn.taking t).0 ∙ sym is));
  }

pub same_put : (ws : List ℕ) (p g : ℕ) → ws ≡ p ∷ g ∷ [] → set ws 0 (slice_index ws 0) ≡ p ∷ g ∷ []
same_put ws p g e = ap (λ (l : List ℕ). set l 0 (slice_index l 0)) e

pub same_taken : (ws : List ℕ) (p g : ℕ) → ws ≡ p ∷ g ∷ [] → set ws 1 (slice_index ws 1) ≡ p ∷ g ∷ []
same_taken ws p g e = ap (λ (l : List ℕ). set l 1 (slice_index l 1)) e

module _ (plan : LanePlan) where
  -- a load that leaves the lists as they are
  pub unmoved : (s : Lanes) (r : IsLane plan s) (id : ℕ) (words' : List ℕ) (v : View)
      → words' ≡ length r.course.put ∷ length r.course.got ∷ [] → Knows plan r.course id v
      → IsLane plan record { words = words'; homes = s.homes; views = set s.views id v }
  unmoved s r id words' v counts mine = let c = r.course in let st = r.stands in
      after plan s r id v words' s.homes c refl
      record {
        counts = counts;
        order = st.order;
        near = st.near;
        planned = st.planned;
        filling = st.filling;
        emptying = st.emptying;
        slots = st.slots;
      } mine (λ j w ne kn. kn)
