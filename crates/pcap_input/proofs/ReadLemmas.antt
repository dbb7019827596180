-- What is read at the front of bytes doesn't change when bytes follow.
use Rattle.std.proofs.Common.{◌≡◌, ℕ, ◌+◌, ◌-◌, ◌*◌, ◌%◌, ◌<◌, ◌≤◌, Bool, true, false, cond, ltb, eqb, List, [], ◌∷◌, ◌++◌, length, take, drop, get_or, Option, None, Some, Result, Ok, Err, refl, sym, ap, ◌∙◌, arith}
use Rattle.std.proofs.lemmas.Bool.{lt-ltb, le-ltb, ltb-true, ltb-false}
use Rattle.std.proofs.lemmas.List.{get_or_append_left, length-append, length-drop, take-append-le, drop-append-le, take_all}
use Rattle.pcap_input.specs.declared.header.Order.{Order}
use Rattle.pcap_input.specs.declared.header.Order.TheVariants.{Little, Big}
use Rattle.pcap_input.specs.declared.item.PcapReason.{PcapReason}
use Rattle.pcap_input.specs.declared.item.PcapReason.TheVariants.{BadVersion, BadLink, BadRecord}
use Rattle.pcap_input.specs.Header.{half_at, number_at, header_size, is_magic, order_of, ordered, header_read}
use Rattle.pcap_input.specs.Record.{IsRecord, most, size_read, frame_at}

-- ---- numbers

half-more : (order : Order) (x y : List ℕ) (at : ℕ) → at + 2 ≤ length x → half_at order (x ++ y) at ≡ half_at order x at
half-more Little x y at le = let a = get_or_append_left x y 0 at (omega arith) in let b = get_or_append_left x y 0 (at + 1) (omega arith) in omega (arith, a, b)
half-more Big x y at le = let a = get_or_append_left x y 0 at (omega arith) in let b = get_or_append_left x y 0 (at + 1) (omega arith) in omega (arith, a, b)

number-more : (order : Order) (x y : List ℕ) (at : ℕ) → at + 4 ≤ length x → number_at order (x ++ y) at ≡ number_at order x at
number-more Little x y at le = omega (arith, half-more Little x y at (omega arith), half-more Little x y (at + 2) (omega arith))
number-more Big x y at le = omega (arith, half-more Big x y at (omega arith), half-more Big x y (at + 2) (omega arith))

-- ---- the header

abbrev orders : ℕ → ℕ → Option Order
orders little big = cond (is_magic little) (Some Little) (cond (is_magic big) (Some Big) None)

order-more : (x y : List ℕ) → 4 ≤ length x → order_of (x ++ y) ≡ order_of x
order-more x y le = ap (λ (n : ℕ). orders n (number_at Big (x ++ y) 0)) (number-more Little x y 0 (omega arith)) ∙ ap (λ (n : ℕ). orders (number_at Little x 0) n) (number-more Big x y 0 (omega arith))

abbrev tested : Order → ℕ → ℕ → Result (Option Order) PcapReason
tested order version link = cond (eqb version 2) (cond (eqb (link % 65536) 1) (Ok (Some order)) (Err BadLink)) (Err BadVersion)

ordered-more : (found : Option Order) (x y : List ℕ) → 24 ≤ length x → ordered found (x ++ y) ≡ ordered found x
ordered-more None x y le = refl
ordered-more (Some order) x y le =
    ap (λ (n : ℕ). tested order n (number_at order (x ++ y) 20)) (half-more order x y 4 (omega arith)) ∙ ap (λ (n : ℕ). tested order (half_at order x 4) n) (number-more order x y 20 (omega arith))

header-is : (b : List ℕ) → header_read b ≡ cond (ltb (length b) 24) (Ok None) (ordered (order_of b) b)
unfolding header_read
header-is b = refl

abbrev nothing : Result (Option Order) PcapReason
nothing = Ok None

header_long : (b : List ℕ) (r : Result (Option Order) PcapReason) (t : Bool) → ltb (length b) 24 ≡ t → header_read b ≡ r → (r ≡ nothing → ⊥) → 24 ≤ length b
header_long b r true short e some = absurd (some (sym e ∙ header-is b ∙ ap (λ (t : Bool). cond t nothing (ordered (order_of b) b)) short))
header_long b r false long e some = ltb-false _ _ long

-- a header that is found, or refused, is found or refused whatever follows
pub header_more : (x y : List ℕ) (r : Result (Option Order) PcapReason) → header_read x ≡ r → (r ≡ nothing → ⊥) → (24 ≤ length x) × (header_read (x ++ y) ≡ r)
header_more x y r e some =
    let long : 24 ≤ length x = header_long x r (ltb (length x) 24) refl e some in
    let now : ltb (length x) 24 ≡ false = le-ltb _ _ long in
    let more : ltb (length (x ++ y)) 24 ≡ false = le-ltb _ _ (omega (arith, long, length-append x y)) in (
      long,
      header-is (x ++ y) ∙ ap (λ (t : Bool). cond t nothing (ordered (order_of (x ++ y)) (x ++ y))) more ∙ ordered-more (order_of (x ++ y)) x y long ∙ ap (λ (o : Option Order). ordered o x) (order-more x y (omega arith))
          ∙ ap (λ (t : Bool). cond t nothing (ordered (order_of x) x)) (sym now) ∙ sym (header-is x) ∙ e,
    )

pub header_found : (x y : List ℕ) (order : Order) → header_read x ≡ Ok (Some order) → (24 ≤ length x) × (header_read (x ++ y) ≡ Ok (Some order))
header_found x y order e = header_more x y (Ok (Some order)) e (λ (none : Ok (Some order) ≡ nothing). absurd cc)

pub header_fails : (x y : List ℕ) (reason : PcapReason) → header_read x ≡ Err reason → header_read (x ++ y) ≡ Err reason
header_fails x y reason e = (header_more x y (Err reason) e (λ (none : Err reason ≡ nothing). absurd cc)).1

-- nothing is a header that isn't whole
pub header_none : header_read [] ≡ Ok None
header_none = header-is []

-- ---- a record

abbrev sized : Bool → Bool → Bool → ℕ → Result (Option ℕ) PcapReason
sized short large cut n = cond short (Ok None) (cond large (Err BadRecord) (cond cut (Ok None) (Ok (Some n))))

size-is : (order : Order) (b : List ℕ) → size_read order b ≡ sized (ltb (length b) 16) (ltb most (number_at order b 8)) (ltb (length b - 16) (number_at order b 8)) (number_at order b 8)
unfolding size_read
size-is order b = refl

record Sized (short large cut : Bool) (n size : ℕ) : Type 0 where
  there : short ≡ false
  small : large ≡ false
  whole : cut ≡ false
  same : n ≡ size

sized_some : (short large cut : Bool) (n size : ℕ) → sized short large cut n ≡ Ok (Some size) → Sized short large cut n size
sized_some true large cut n size e = absurd cc
sized_some false true cut n size e = absurd cc
sized_some false false true n size e = absurd cc
sized_some false false false n size e = record { there = refl; small = refl; whole = refl; same = cc }

sized_err : (short large cut : Bool) (n : ℕ) (reason : PcapReason) → sized short large cut n ≡ Err reason → (short ≡ false) × (large ≡ true)
sized_err true large cut n reason e = absurd cc
sized_err false true cut n reason e = (refl, refl)
sized_err false false true n reason e = absurd cc
sized_err false false false n reason e = absurd cc

-- the record at the front is there, and is there whatever follows
pub record Whole (order : Order) (x y : List ℕ) (size : ℕ) : Type 0 where
  pub within : 16 + size ≤ length x
  pub few : size ≤ most
  pub stored : number_at order x 8 ≡ size
  pub more : size_read order (x ++ y) ≡ Ok (Some size)
  pub frame : frame_at (x ++ y) size ≡ frame_at x size

frame-more : (x y : List ℕ) (size : ℕ) → 16 + size ≤ length x → frame_at (x ++ y) size ≡ frame_at x size
frame-more x y size le = ap (take (16 + size - 16)) (drop-append-le 16 x y (omega arith)) ∙ take-append-le (16 + size - 16) (drop 16 x) y (omega (arith, le, length-drop 16 x))

sized-as : (short large cut : Bool) (n size : ℕ) → short ≡ false → large ≡ false → cut ≡ false → n ≡ size → sized short large cut n ≡ Ok (Some size)
sized-as short large cut n size a b c e = cc

pub size_found : (order : Order) (x y : List ℕ) (size : ℕ) → size_read order x ≡ Ok (Some size) → Whole order x y size
size_found order x y size e =
    let s = sized_some (ltb (length x) 16) (ltb most (number_at order x 8)) (ltb (length x - 16) (number_at order x 8)) (number_at order x 8) size (sym (size-is order x) ∙ e) in
    let there : 16 ≤ length x = ltb-false _ _ s.there in
    let cut : number_at order x 8 ≤ length x - 16 = ltb-false _ _ s.whole in
    let small : number_at order x 8 ≤ most = ltb-false _ _ s.small in
    let within : 16 + size ≤ length x = omega (arith, there, cut, s.same) in
    let same : number_at order (x ++ y) 8 ≡ number_at order x 8 = number-more order x y 8 (omega (arith, there)) in
    let long = length-append x y in
    record {
      within = within;
      few = omega (arith, small, s.same);
      stored = s.same;
      more = size-is order (x ++ y) ∙ sized-as (ltb (length (x ++ y)) 16) (ltb most (number_at order (x ++ y) 8)) (ltb (length (x ++ y) - 16) (number_at order (x ++ y) 8)) (number_at order (x ++ y) 8) size
          (le-ltb _ _ (omega (arith, there, long))) (le-ltb _ _ (omega (arith, small, same))) (le-ltb _ _ (omega (arith, cut, same, long))) (same ∙ s.same);
      frame = frame-more x y size within;
    }

abbrev failed : PcapReason → Result (Option ℕ) PcapReason
failed reason = Err reason

err-as : (short large cut : Bool) (n : ℕ) → short ≡ false → large ≡ true → sized short large cut n ≡ Err BadRecord
err-as short large cut n a b = cc

only_record : (short large cut : Bool) (n : ℕ) (reason : PcapReason) → short ≡ false → large ≡ true → sized short large cut n ≡ Err reason → failed BadRecord ≡ failed reason
only_record short large cut n reason a b e = sym (err-as short large cut n a b) ∙ e

pub size_fails : (order : Order) (x y : List ℕ) (reason : PcapReason) → size_read order x ≡ Err reason → size_read order (x ++ y) ≡ Err reason
size_fails order x y reason e =
    let read = sym (size-is order x) ∙ e in
    let s = sized_err (ltb (length x) 16) (ltb most (number_at order x 8)) (ltb (length x - 16) (number_at order x 8)) (number_at order x 8) reason read in
    let there : 16 ≤ length x = ltb-false _ _ s.0 in
    let large : most < number_at order x 8 = ltb-true _ _ s.1 in
    let same : number_at order (x ++ y) 8 ≡ number_at order x 8 = number-more order x y 8 (omega (arith, there)) in
    size-is order (x ++ y) ∙ err-as (ltb (length (x ++ y)) 16) (ltb most (number_at order (x ++ y) 8)) (ltb (length (x ++ y) - 16) (number_at order (x ++ y) 8)) (number_at order (x ++ y) 8)
    (le-ltb _ _ (omega (arith, there, length-append x y))) (lt-ltb _ _ (omega (arith, large, same)))
    ∙ only_record (ltb (length x) 16) (ltb most (number_at order x 8)) (ltb (length x - 16) (number_at order x 8)) (number_at order x 8) reason s.0 s.1 read

-- there is no record in no bytes, and no fault of one
pub size_none : (order : Order) → size_read order [] ≡ Ok None
size_none order = size-is order []

-- ---- a record of a frame is read back, whatever follows

pub record_read : (order : Order) (frame front rest : List ℕ) → IsRecord order frame front → size_read order (front ++ rest) ≡ Ok (Some (length frame))
record_read order frame front rest r =
    let same : number_at order (front ++ rest) 8 ≡ number_at order front 8 = number-more order front rest 8 (omega (arith, r.whole)) in
    let long = length-append front rest in
    size-is order (front ++ rest)
    ∙ sized-as (ltb (length (front ++ rest)) 16) (ltb most (number_at order (front ++ rest) 8)) (ltb (length (front ++ rest) - 16) (number_at order (front ++ rest) 8)) (number_at order (front ++ rest) 8) (length frame)
    (le-ltb _ _ (omega (arith, r.whole, long))) (le-ltb _ _ (omega (arith, r.few, same, r.stored))) (le-ltb _ _ (omega (arith, r.whole, same, r.stored, long))) (same ∙ r.stored)

pub record_frame : (order : Order) (frame front rest : List ℕ) → IsRecord order frame front → frame_at (front ++ rest) (length frame) ≡ frame
record_frame order frame front rest r =
    frame-more front rest (length frame) (omega (arith, r.whole)) ∙ ap (take (16 + length frame - 16)) r.rest ∙ take_all (16 + length frame - 16) frame (omega arith)
