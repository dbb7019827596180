-- What the fields of an end keep, call by call.
use Rattle.std.proofs.Common.{◌≡◌, ℕ, ◌+◌, ◌<◌, List, [], ◌∷◌, length, Option, Some, None, slice_get}
use Rattle.std.proofs.Common.{refl, sym, ap, subst, ◌∙◌, length-append, arith}
use mathlib.Core.List.{IsPrefix}
use Rattle.atomic_table.specs.Table.{rest}
use Rattle.chdr_packets.specs.declared.packet.Packet.{Packet}
use Rattle.credit_lane.specs.declared.plan.LanePlan.{LanePlan}
use Rattle.credit_lane.specs.declared.plan.LanePlan.TheVariants.{Any, Producer}
use Rattle.credit_lane.specs.declared.rule.View.{View}
use Rattle.credit_lane.specs.Planned.{IsPlanned, IsNext}
use Rattle.block_library.specs.Producer.{produced}
use Rattle.credit_lane.specs.Plays.{Seated, filling, filled, emptying, emptied}
use Rattle.credit_lane.specs.Plays.{next_of}
use Rattle.credit_lane.specs.Held.{putting, taking, Puts, Takes}
use Rattle.credit_lane.proofs.Prefixes.{begins_longer, begins_next, begins_itself}
use Rattle.credit_lane.proofs.Prefixes.{begins_chain, get_in_longer}
use Rattle.credit_lane.proofs.Putting.{fits_more}
use Rattle.credit_lane.proofs.Seats.{fits_nothing}

-- the slot that was taken holds what was written into it
pub held : (m m₁ m₂ : Seated) (v : View) (i j : ℕ) (o o' : Option Packet) → m₂ ≡
    (m₁.0, (i, o') ∷ rest m₁.1) → m₁ ≡ (v, (j, o) ∷ m.1) → m.1 ≡ [] → m₂ ≡ (v, (i, o') ∷ [])
held m m₁ m₂ v i j o o' now took no_slot = now ∙ ap (λ (z : Seated). (z.0, (i, o') ∷ rest z.1)) took
    ∙ ap (λ (l : List (ℕ × Option Packet)). (v, (i, o') ∷ l)) no_slot

-- the slot that was taken is the one that is asked for
pub taken_slot : (m m₁ : Seated) (v : View) (i j : ℕ) (o : Option Packet) → m₁ ≡ (v, (j, o) ∷ m.1)
    → i ≡ j → m₁.1 ≡ (i, o) ∷ rest m₁.1
taken_slot m m₁ v i j o took is = let p = ap (λ (z : Seated). z.1) took in p ∙
    (λ k. (sym is k, o) ∷ sym (ap rest p) k)

first_value : List (ℕ × Option Packet) → Option Packet
first_value [] = None
first_value (slot ∷ slots) = slot.1

-- what was read from the slot is what it had
pub read_value : (m m₁ : Seated) (v : View) (i j : ℕ) (o o' : Option Packet) → m₁.1 ≡
    (i, o') ∷ rest m₁.1 → m₁ ≡ (v, (j, o) ∷ m.1) → o' ≡ o
unfolding first_value
read_value m m₁ v i j o o' read took = ap first_value (sym read) ∙ ap
    (λ (z : Seated). first_value z.1) took

pub puts_more : (plan : LanePlan) (room put taken : ℕ) (me me' : Seated) (x : Packet)
    → Puts plan room put taken me → me' ≡ (filled (filling me.0) (x ∷ []), []) → put < taken + room
    → IsNext plan me.0.put x
    → Puts plan room (put + 1) taken me'
puts_more plan room put taken me me' x p is near next = subst (Puts plan room (put + 1) taken)
    (sym is) record {
      seat = ap (λ (z : Seated). (filled (filling z.0) (x ∷ []), [])) p.seat;
      put_is = omega (arith, p.put_is, length-append me.0.put (x ∷ []));
      taken_is = p.taken_is;
      behind = begins_longer me.0.got me.0.put (x ∷ []) p.behind;
      near = omega arith;
      planned = fits_more plan me.0.put x p.planned next;
    }

pub next_in_plan : (plan : LanePlan) (put got : List Packet) (y : Packet) → IsPlanned plan put
    → slice_get put (length got) ≡ Some y → length got < length put → IsNext plan got y
next_in_plan Any put got y fits next more = tt
next_in_plan (Producer t) put got y fits next more = sym
    (get_in_longer put (produced t) (length got) fits more) ∙ next

pub beginning_planned : (plan : LanePlan) (got put : List Packet) → IsPlanned plan put
    → IsPrefix got put → IsPlanned plan got
beginning_planned Any got put planned order = tt
beginning_planned (Producer t) got put planned order = begins_chain got put (produced t) order planned

pub takes_more : (plan : LanePlan) (room taken put : ℕ) (me me' : Seated) (y : Packet)
    → Takes plan room taken put me → me' ≡ (emptied (emptying me.0) (y ∷ []), [])
    → next_of me.0 ≡ Some y
    → taken < put → Takes plan room (taken + 1) put me'
takes_more plan room taken put me me' y p is next more = subst (Takes plan room (taken + 1) put)
    (sym is) record {
      seat = ap (λ (z : Seated). (emptied (emptying z.0) (y ∷ []), [])) p.seat;
      taken_is = omega (arith, p.taken_is, length-append me.0.got (y ∷ []));
      put_is = p.put_is;
      behind = begins_next me.0.got me.0.put y p.behind next;
      near = omega (arith, p.near);
      planned = p.planned;
    }

pub puts_first : (plan : LanePlan) (room : ℕ) (me : Seated) → me ≡ (putting plan [] [], [])
    → Puts plan room 0 0 me
puts_first plan room me is = subst (Puts plan room 0 0) (sym is)
    record {
      seat = refl;
      put_is = refl;
      taken_is = refl;
      behind = begins_itself [];
      near = omega arith;
      planned = fits_nothing plan;
    }

pub takes_first : (plan : LanePlan) (room : ℕ) (me : Seated) → me ≡ (taking plan [] [], [])
    → Takes plan room 0 0 me
takes_first plan room me is = subst (Takes plan room 0 0) (sym is)
    record {
      seat = refl;
      taken_is = refl;
      put_is = refl;
      behind = begins_itself [];
      near = omega arith;
      planned = fits_nothing plan;
    }
