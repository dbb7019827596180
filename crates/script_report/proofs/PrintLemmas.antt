-- Texts that go to a sink over a page: what was printed, and what is left on the page.
use Rattle.std.proofs.Common.{◌≡◌, ◌++◌, ◌+◌, ℕ, List, [], refl, sym, ◌∙◌, ap, append_assoc, append-nil, subst, arith, ◌-◌, ◌<◌, ◌≤◌}
use Rattle.std.specs.Prelude.{Option, None, Some, Result, Ok, Err, OnOk, OnErr}
use Rattle.rf_outside.specs.Bytes.{Adds, AddsPrefix}
use Rattle.script_lines.specs.Lines.{each}
use Rattle.script_report.specs.Prints.{Printed, PrintedPart}
use Rattle.script_report.proofs.EachLemmas.{each_from, each_more, each_none}

adds_none : (w : Option (List ℕ)) → Adds w w []
adds_none None = tt
adds_none (Some xs) = sym (append-nil xs)

adds_more : (a b c : Option (List ℕ)) (xs ys : List ℕ) → Adds a b xs → Adds b c ys → Adds a c (xs ++ ys)
adds_more None None None xs ys p q = tt
adds_more None None (Some w) xs ys p q = absurd q
adds_more None (Some v) c xs ys p q = absurd p
adds_more (Some u) None None xs ys p q = tt
adds_more (Some u) None (Some w) xs ys p q = absurd q
adds_more (Some u) (Some v) None xs ys p q = tt
adds_more (Some u) (Some v) (Some w) xs ys p q = q ∙ ap (λ (l : List ℕ). l ++ ys) p ∙ append_assoc u xs ys

-- the text waits on the page
pub printed_put : (w : Option (List ℕ)) (page left text : List ℕ) → left ≡ page ++ text → Printed w w page left text
printed_put w page left text e = record { front = []; splits = sym e; added = adds_none w }

pub printed_none : (w : Option (List ℕ)) (page : List ℕ) → Printed w w page page []
printed_none w page = printed_put w page page [] (sym (append-nil page))

-- the whole page was added
pub printed_page : (a b : Option (List ℕ)) (page left : List ℕ) → left ≡ [] → Adds a b page → Printed a b page left []
printed_page a b page left e added = record { front = page; splits = ap (λ (l : List ℕ). page ++ l) (sym e); added = added }

-- and then more
pub printed_then : (a b c : Option (List ℕ)) (page left last xs ys : List ℕ) → Printed a b page left xs → Printed b c left last ys → Printed a c page last (xs ++ ys)
printed_then a b c page left last xs ys u v = record {
  front = u.front ++ v.front;
  splits = sym (append_assoc page xs ys) ∙ ap (λ (l : List ℕ). l ++ ys) u.splits ∙ append_assoc u.front left ys
      ∙ ap (λ (l : List ℕ). u.front ++ l) v.splits ∙ sym (append_assoc u.front v.front last);
  added = adds_more a b c u.front v.front u.added v.added;
}

-- a first part of the page was added
pub part_page : (a b : Option (List ℕ)) (page : List ℕ) → AddsPrefix a b page → PrintedPart a b page []
part_page a b page (rest, u) = record { front = u.front; rest = rest; splits = append-nil page ∙ u.splits; added = u.added }

-- what was printed whole was printed in part
pub part_whole : (a b : Option (List ℕ)) (page left xs : List ℕ) → Printed a b page left xs → PrintedPart a b page xs
part_whole a b page left xs u = record { front = u.front; rest = left; splits = u.splits; added = u.added }

pub part_then : (a b c : Option (List ℕ)) (page left xs ys : List ℕ) → Printed a b page left xs → PrintedPart b c left ys → PrintedPart a c page (xs ++ ys)
part_then a b c page left xs ys u v = record {
  front = u.front ++ v.front;
  rest = v.rest;
  splits = sym (append_assoc page xs ys) ∙ ap (λ (l : List ℕ). l ++ ys) u.splits ∙ append_assoc u.front left ys
      ∙ ap (λ (l : List ℕ). u.front ++ l) v.splits ∙ sym (append_assoc u.front v.front v.rest);
  added = adds_more a b c u.front v.front u.added v.added;
}

pub part_more : (a b : Option (List ℕ)) (page xs ys : List ℕ) → PrintedPart a b page xs → PrintedPart a b page (xs ++ ys)
part_more a b page xs ys u = record {
  front = u.front;
  rest = u.rest ++ ys;
  splits = sym (append_assoc page xs ys) ∙ ap (λ (l : List ℕ). l ++ ys) u.splits ∙ append_assoc u.front u.rest ys;
  added = u.added;
}

-- ---- lists of lines

pub printed_line : (a b c : Option (List ℕ)) (page left last : List ℕ) (f : ℕ → List ℕ) (k : ℕ) → Printed a b page left (each f k) → Printed b c left last (f k) → Printed a c page last (each f (k + 1))
printed_line a b c page left last f k u v = subst (λ (l : List ℕ). Printed a c page last l) (sym (each_more f k)) (printed_then a b c page left last (each f k) (f k) u v)

part_line : (a b c : Option (List ℕ)) (page left : List ℕ) (f : ℕ → List ℕ) (k : ℕ) → Printed a b page left (each f k) → PrintedPart b c left (f k) → PrintedPart a c page (each f (k + 1))
part_line a b c page left f k u v = subst (λ (l : List ℕ). PrintedPart a c page l) (sym (each_more f k)) (part_then a b c page left (each f k) (f k) u v)

-- the first places, and a first part of what follows
pub part_upto : (a b : Option (List ℕ)) (page : List ℕ) (f : ℕ → List ℕ) (k n : ℕ) → k ≤ n → PrintedPart a b page (each f k) → PrintedPart a b page (each f n)
part_upto a b page f k n h u =
    let e : k + (n - k) ≡ n = omega arith in
    let p : PrintedPart a b page (each f k ++ each (λ i. f (k + i)) (n - k)) = part_more a b page (each f k) (each (λ i. f (k + i)) (n - k)) u in
    subst (λ (m : ℕ). PrintedPart a b page (each f m)) e (subst (λ (l : List ℕ). PrintedPart a b page l) (sym (each_from f k (n - k))) p)

-- no room was made for the next line
pub part_room : (a b c : Option (List ℕ)) (page left : List ℕ) (f : ℕ → List ℕ) (k n : ℕ) → k ≤ n → Printed a b page left (each f k) → PrintedPart b c left [] → PrintedPart a c page (each f n)
part_room a b c page left f k n h u v =
    part_upto a c page f k n h (subst (λ (l : List ℕ). PrintedPart a c page l) (append-nil (each f k)) (part_then a b c page left (each f k) [] u v))

-- the next text was printed in part
pub part_next : (a b c : Option (List ℕ)) (page left : List ℕ) (f : ℕ → List ℕ) (k n : ℕ) → k < n → Printed a b page left (each f k) → PrintedPart b c left (f k) → PrintedPart a c page (each f n)
part_next a b c page left f k n h u v =
    let le : k + 1 ≤ n = omega arith in
    part_upto a c page f (k + 1) n le (part_line a b c page left f k u v)

-- room was made, and the next line was put
pub printed_next : (a b c : Option (List ℕ)) (page left room last : List ℕ) (f : ℕ → List ℕ) (k : ℕ) → Printed a b page left (each f k) → Printed b c left room [] → last ≡ room ++ f k → Printed a c page last (each f (k + 1))
printed_next a b c page left room last f k u v e =
    printed_line a b c page left last f k u (printed_then b c c left room last [] (f k) v (printed_put c room last (f k) e))

pub ruleset print_lemmas = (printed_none, printed_page, part_page)

-- ---- outcomes

pub on_err : {T E : Type 0} (r : Result T E) (P : Type 0) → P → OnErr r P
on_err (Ok x) P p = tt
on_err (Err e) P p = p

pub err_then : {T E : Type 0} (r : Result T E) (P Q : Type 0) → (P → Q) → OnErr r P → OnErr r Q
err_then (Ok x) P Q f p = tt
err_then (Err e) P Q f p = f p

pub ok_then : {T E : Type 0} (r : Result T E) (P Q : Type 0) → (P → Q) → OnOk r P → OnOk r Q
ok_then (Ok x) P Q f p = f p
ok_then (Err e) P Q f p = tt

-- what was printed, and then what a call prints at Ok, or in part at Err
pub then_ok : {T E : Type 0} (r : Result T E) (a b c : Option (List ℕ)) (page left last xs ys : List ℕ) → Printed a b page left xs → OnOk r (Printed b c left last ys) → OnOk r (Printed a c page last (xs ++ ys))
then_ok (Ok x) a b c page left last xs ys u v = printed_then a b c page left last xs ys u v
then_ok (Err e) a b c page left last xs ys u v = tt

pub then_err : {T E : Type 0} (r : Result T E) (a b c : Option (List ℕ)) (page left xs ys : List ℕ) → Printed a b page left xs → OnErr r (PrintedPart b c left ys) → OnErr r (PrintedPart a c page (xs ++ ys))
then_err (Ok x) a b c page left xs ys u v = tt
then_err (Err e) a b c page left xs ys u v = part_then a b c page left xs ys u v

-- at Err a first part of what was to follow
pub fails : {T E : Type 0} (r : Result T E) (a b : Option (List ℕ)) (page xs ys : List ℕ) → PrintedPart a b page xs → OnErr r (PrintedPart a b page (xs ++ ys))
fails (Ok x) a b page xs ys u = tt
fails (Err e) a b page xs ys u = part_more a b page xs ys u

-- nothing was printed yet
pub printed_start : (w : Option (List ℕ)) (page : List ℕ) (f : ℕ → List ℕ) → Printed w w page page (each f 0)
printed_start w page f = subst (λ (l : List ℕ). Printed w w page page l) (sym (each_none f)) (printed_none w page)

-- a text was put on a page with room
pub printed_room : (a b : Option (List ℕ)) (page room last xs : List ℕ) → Printed a b page room [] → last ≡ room ++ xs → Printed a b page last xs
printed_room a b page room last xs u e = printed_then a b b page room last [] xs u (printed_put b room last xs e)

-- what was printed, and then the page goes out
pub ends_ok : {T E : Type 0} (r : Result T E) (a b c : Option (List ℕ)) (page left last xs : List ℕ) → Printed a b page left xs → OnOk r (Printed b c left last []) → OnOk r (Printed a c page last xs)
ends_ok (Ok x) a b c page left last xs u v = subst (λ (l : List ℕ). Printed a c page last l) (append-nil xs) (printed_then a b c page left last xs [] u v)
ends_ok (Err e) a b c page left last xs u v = tt

pub ends_err : {T E : Type 0} (r : Result T E) (a b c : Option (List ℕ)) (page left xs : List ℕ) → Printed a b page left xs → OnErr r (PrintedPart b c left []) → OnErr r (PrintedPart a c page xs)
ends_err (Ok x) a b c page left xs u v = tt
ends_err (Err e) a b c page left xs u v = subst (λ (l : List ℕ). PrintedPart a c page l) (append-nil xs) (part_then a b c page left xs [] u v)

-- from an empty page to an empty page, the text itself was added
pub out_ok : {T E : Type 0} (r : Result T E) (a b : Option (List ℕ)) (page left text : List ℕ) → page ≡ [] → OnOk r (Printed a b page left text) → OnOk r (left ≡ []) → OnOk r (Adds a b text)
out_ok (Ok x) a b page left text none u empty =
    let front_is : u.front ≡ text = sym (append-nil u.front) ∙ ap (λ (l : List ℕ). u.front ++ l) (sym empty) ∙ sym u.splits ∙ ap (λ (l : List ℕ). l ++ text) none in
    subst (λ (l : List ℕ). Adds a b l) front_is u.added
out_ok (Err e) a b page left text none u empty = tt

pub out_err : {T E : Type 0} (r : Result T E) (a b : Option (List ℕ)) (page text : List ℕ) → page ≡ [] → OnErr r (PrintedPart a b page text) → OnErr r (AddsPrefix a b text)
out_err (Ok x) a b page text none u = tt
out_err (Err e) a b page text none u = (u.rest, record { front = u.front; splits = sym (ap (λ (l : List ℕ). l ++ text) none) ∙ u.splits; added = u.added })
