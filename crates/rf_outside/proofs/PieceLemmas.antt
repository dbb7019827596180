-- What came of a source piece by piece, and what was written of it.
use Rattle.std.proofs.Common.{append_assoc, ◌≡◌, ℕ, ◌<◌, List, [], ◌∷◌, ◌++◌, length, take, Option, None, Some, refl, sym, ap, subst, ◌∙◌, arith}
use Rattle.std.specs.Prelude.{IfSome, IfOk, OnErr, Result, Ok, Err}
use Rattle.std.specs.Io.KnownBytes.{Consumes, IsAtEnd}
use Rattle.std.proofs.lemmas.List.{append-nil, length-append}
use Rattle.rf_outside.specs.Bytes.{Adds, AddsPrefix, AddsUpTo}
use Rattle.rf_outside.specs.Pieces.{IsSettled, ReadsOn, Tells}
use Rattle.rf_outside.proofs.Moved.{Adds-none, Adds-then}

-- these bytes came, their text was written, and the rest of both is the reader's
pub record Came {X : Type 0} (text later : List ℕ → List ℕ) (seen then : List ℕ → X) (left now begun written : Option (List ℕ)) : Type 0 where
  pub fed : List ℕ
  pub put : List ℕ
  pub came : Consumes left now fed
  pub added : Adds begun written put
  pub puts : (more : List ℕ) → text (fed ++ more) ≡ put ++ later more
  pub sees : (more : List ℕ) → seen (fed ++ more) ≡ then more

came_nothing : (left : Option (List ℕ)) → Consumes left left []
came_nothing None = tt
came_nothing (Some bytes) = refl

came_then : (a b c : Option (List ℕ)) (bs cs : List ℕ) → Consumes a b bs → Consumes b c cs → Consumes a c (bs ++ cs)
came_then None b c bs cs p q = tt
came_then (Some x) None c bs cs p q = absurd p
came_then (Some x) (Some y) None bs cs p q = absurd q
came_then (Some x) (Some y) (Some z) bs cs p q = p ∙ ap (λ (l : List ℕ). bs ++ l) q ∙ sym (append_assoc bs cs z)

pub came_none : {X : Type 0} (text : List ℕ → List ℕ) (seen : List ℕ → X) (left begun : Option (List ℕ)) → Came text text seen seen left left begun begun
came_none text seen left begun = record { fed = []; put = []; came = came_nothing left; added = Adds-none begun; puts = λ more. refl; sees = λ more. refl }

-- a piece more came, and its text was written
pub came_more : {X : Type 0} (text mid later : List ℕ → List ℕ) (seen then last : List ℕ → X) (left now after begun written wrote : Option (List ℕ)) (piece old new : List ℕ)
    → Came text mid seen then left now begun written → Consumes now after piece → old ≡ [] → ReadsOn mid later then last piece old new → Adds written wrote new
    → Came text later seen last left after begun wrote
came_more text mid later seen then last left now after begun written wrote piece old new c came empty r adds =
    let put_is : new ≡ r.put = r.added ∙ ap (λ (l : List ℕ). l ++ r.put) empty in
    record {
      fed = c.fed ++ piece;
      put = c.put ++ r.put;
      came = came_then left now after c.fed piece c.came came;
      added = Adds-then begun written wrote c.put r.put c.added (subst (λ (l : List ℕ). Adds written wrote l) put_is adds);
      puts = λ more. ap text (append_assoc c.fed piece more) ∙ c.puts (piece ++ more) ∙ ap (λ (l : List ℕ). c.put ++ l) (r.puts more) ∙ sym (append_assoc c.put r.put (later more));
      sees = λ more. ap seen (append_assoc c.fed piece more) ∙ c.sees (piece ++ more) ∙ r.sees more;
    }

-- what stands of all bytes, when it stands of those that came with any that may follow
told_at : (a b : Option (List ℕ)) (fed : List ℕ) (P : List ℕ → Type 0) → Consumes a b fed → ((rest : List ℕ) → P (fed ++ rest)) → IfSome a P
told_at None b fed P c h = tt
told_at (Some bytes) None fed P c h = absurd c
told_at (Some bytes) (Some rest) fed P c h = subst P (sym c) (h rest)

told_end : (a b : Option (List ℕ)) (fed : List ℕ) (P : List ℕ → Type 0) → Consumes a b fed → IsAtEnd b → P (fed ++ []) → IfSome a P
told_end None b fed P c e h = tt
told_end (Some bytes) None fed P c e h = absurd c
told_end (Some bytes) (Some rest) fed P c e h = subst P (sym (c ∙ ap (λ (r : List ℕ). fed ++ r) e)) h

tells_more : {X : Type 0} (text later : List ℕ → List ℕ) (seen then : List ℕ → X) (left now begun written wrote : Option (List ℕ)) (found : X) (more : List ℕ)
    → (c : Came text later seen then left now begun written) → Tells written wrote (later more) (then more) found → Tells begun wrote (text (c.fed ++ more)) (seen (c.fed ++ more)) found
tells_more text later seen then left now begun written wrote found more c t = record {
  written = subst (λ (l : List ℕ). Adds begun wrote l) (sym (c.puts more)) (Adds-then begun written wrote c.put (later more) c.added t.written);
  sees = t.sees ∙ sym (c.sees more);
}

prefix_then : (a b c : Option (List ℕ)) (xs ys : List ℕ) → Adds a b xs → AddsPrefix b c ys → AddsPrefix a c (xs ++ ys)
prefix_then a b c xs ys p (rest, u) = (rest, record { front = xs ++ u.front; splits = ap (λ (l : List ℕ). xs ++ l) u.splits ∙ sym (append_assoc xs u.front rest); added = Adds-then a b c xs u.front p u.added })

prefix_more : {X : Type 0} (text later : List ℕ → List ℕ) (seen then : List ℕ → X) (left now begun written wrote : Option (List ℕ)) (more : List ℕ)
    → (c : Came text later seen then left now begun written) → AddsPrefix written wrote (later more) → AddsPrefix begun wrote (text (c.fed ++ more))
prefix_more text later seen then left now begun written wrote more c p =
    subst (λ (l : List ℕ). AddsPrefix begun wrote l) (sym (c.puts more)) (prefix_then begun written wrote c.put (later more) c.added p)

pub prefix_none : (written : Option (List ℕ)) (text : List ℕ) → AddsPrefix written written text
prefix_none written text = (text, record { front = []; splits = refl; added = Adds-none written })

-- ---- the source's end

came_last : (a b c : Option (List ℕ)) (fed : List ℕ) (n : ℕ) (piece : List ℕ) → Consumes a b fed → Consumes b c (take n piece) → n ≡ 0 → Consumes a c fed
came_last a b c fed n piece p q none =
    let nothing : take n piece ≡ [] = rw none refl in
    subst (λ (l : List ℕ). Consumes a c l) (append-nil fed) (came_then a b c fed [] p (subst (Consumes b c) nothing q))

pub ended_told : {X : Type 0} (text later : List ℕ → List ℕ) (seen then : List ℕ → X) (left now after begun written wrote : Option (List ℕ)) (n : ℕ) (piece : List ℕ) (found : X)
    → Came text later seen then left now begun written → Consumes now after (take n piece) → n ≡ 0 → IsAtEnd after → Tells written wrote (later []) (then []) found
    → IfSome left (λ bytes. Tells begun wrote (text bytes) (seen bytes) found)
ended_told text later seen then left now after begun written wrote n piece found c came none end t =
    told_end left after c.fed (λ bytes. Tells begun wrote (text bytes) (seen bytes) found)
    (came_last left now after c.fed n piece c.came came none) end
    (tells_more text later seen then left now begun written wrote found [] c t)

pub ended_prefix : {X : Type 0} (text later : List ℕ → List ℕ) (seen then : List ℕ → X) (left now after begun written wrote : Option (List ℕ)) (n : ℕ) (piece : List ℕ)
    → Came text later seen then left now begun written → Consumes now after (take n piece) → n ≡ 0 → IsAtEnd after → AddsPrefix written wrote (later [])
    → IfSome left (λ bytes. AddsPrefix begun wrote (text bytes))
ended_prefix text later seen then left now after begun written wrote n piece c came none end p =
    told_end left after c.fed (λ bytes. AddsPrefix begun wrote (text bytes))
    (came_last left now after c.fed n piece c.came came none) end
    (prefix_more text later seen then left now begun written wrote [] c p)

-- ---- the reader stops

pub settled_told : {X : Type 0} (text later : List ℕ → List ℕ) (seen then : List ℕ → X) (left now begun written wrote : Option (List ℕ)) (found : X)
    → Came text later seen then left now begun written → IsSettled later then → Tells written wrote (later []) (then []) found
    → IfSome left (λ bytes. Tells begun wrote (text bytes) (seen bytes) found)
settled_told text later seen then left now begun written wrote found c s t =
    told_at left now c.fed (λ bytes. Tells begun wrote (text bytes) (seen bytes) found) c.came
    (λ rest. tells_more text later seen then left now begun written wrote found rest c (record { written = subst (λ (l : List ℕ). Adds written wrote l) (sym (s.puts rest)) t.written; sees = t.sees ∙ sym (s.sees rest) }))

pub settled_prefix : {X : Type 0} (text later : List ℕ → List ℕ) (seen then : List ℕ → X) (left now begun written wrote : Option (List ℕ))
    → Came text later seen then left now begun written → IsSettled later then → AddsPrefix written wrote (later [])
    → IfSome left (λ bytes. AddsPrefix begun wrote (text bytes))
settled_prefix text later seen then left now begun written wrote c s p =
    told_at left now c.fed (λ bytes. AddsPrefix begun wrote (text bytes)) c.came
    (λ rest. prefix_more text later seen then left now begun written wrote rest c (subst (λ (l : List ℕ). AddsPrefix written wrote l) (sym (s.puts rest)) p))

-- ---- more comes than the reader takes

some_more : (piece rest : List ℕ) → 0 < length piece → 0 < length (piece ++ rest)
some_more piece rest some = omega (arith, length-append piece rest, some)

pub long_told : {X : Type 0} (text later : List ℕ → List ℕ) (seen then : List ℕ → X) (left now after begun written wrote : Option (List ℕ)) (piece : List ℕ) (found : X)
    → Came text later seen then left now begun written → Consumes now after piece → 0 < length piece
    → ((more : List ℕ) → 0 < length more → Tells written wrote (later more) (then more) found)
    → IfSome left (λ bytes. Tells begun wrote (text bytes) (seen bytes) found)
long_told text later seen then left now after begun written wrote piece found c came some t =
    told_at left after (c.fed ++ piece) (λ bytes. Tells begun wrote (text bytes) (seen bytes) found) (came_then left now after c.fed piece c.came came)
    (λ rest. subst (λ (bytes : List ℕ). Tells begun wrote (text bytes) (seen bytes) found) (sym (append_assoc c.fed piece rest))
    (tells_more text later seen then left now begun written wrote found (piece ++ rest) c (t (piece ++ rest) (some_more piece rest some))))

pub long_prefix : {X : Type 0} (text later : List ℕ → List ℕ) (seen then : List ℕ → X) (left now after begun written wrote : Option (List ℕ)) (piece : List ℕ)
    → Came text later seen then left now begun written → Consumes now after piece → 0 < length piece
    → ((more : List ℕ) → 0 < length more → AddsPrefix written wrote (later more))
    → IfSome left (λ bytes. AddsPrefix begun wrote (text bytes))
long_prefix text later seen then left now after begun written wrote piece c came some p =
    told_at left after (c.fed ++ piece) (λ bytes. AddsPrefix begun wrote (text bytes)) (came_then left now after c.fed piece c.came came)
    (λ rest. subst (λ (bytes : List ℕ). AddsPrefix begun wrote (text bytes)) (sym (append_assoc c.fed piece rest))
    (prefix_more text later seen then left now begun written wrote (piece ++ rest) c (p (piece ++ rest) (some_more piece rest some))))

-- ---- a step fails

-- nothing more was written
pub kept_prefix : {X : Type 0} (text later : List ℕ → List ℕ) (seen then : List ℕ → X) (left now begun written : Option (List ℕ))
    → Came text later seen then left now begun written → IfSome left (λ bytes. AddsPrefix begun written (text bytes))
kept_prefix text later seen then left now begun written c =
    told_at left now c.fed (λ bytes. AddsPrefix begun written (text bytes)) c.came
    (λ rest. prefix_more text later seen then left now begun written written rest c (prefix_none written (later rest)))

prefix_append : (a b : Option (List ℕ)) (xs ys : List ℕ) → AddsPrefix a b xs → AddsPrefix a b (xs ++ ys)
prefix_append a b xs ys (rest, u) = (rest ++ ys, record { front = u.front; splits = ap (λ (l : List ℕ). l ++ ys) u.splits ∙ append_assoc u.front rest ys; added = u.added })

-- of the piece's text a first part was written
pub piece_prefix : {X : Type 0} (text mid later : List ℕ → List ℕ) (seen then last : List ℕ → X) (left now after begun written wrote : Option (List ℕ)) (piece old new : List ℕ)
    → Came text mid seen then left now begun written → Consumes now after piece → old ≡ [] → ReadsOn mid later then last piece old new → AddsPrefix written wrote new
    → IfSome left (λ bytes. AddsPrefix begun wrote (text bytes))
piece_prefix text mid later seen then last left now after begun written wrote piece old new c came empty r p =
    let put_is : new ≡ r.put = r.added ∙ ap (λ (l : List ℕ). l ++ r.put) empty in
    told_at left after (c.fed ++ piece) (λ bytes. AddsPrefix begun wrote (text bytes)) (came_then left now after c.fed piece c.came came)
    (λ rest. subst (λ (bytes : List ℕ). AddsPrefix begun wrote (text bytes)) (sym (append_assoc c.fed piece rest))
    (prefix_more text mid seen then left now begun written wrote (piece ++ rest) c
    (subst (λ (l : List ℕ). AddsPrefix written wrote l) (sym (r.puts rest))
    (prefix_append written wrote r.put (later rest) (subst (λ (l : List ℕ). AddsPrefix written wrote l) put_is p)))))

-- ---- a reader that puts no text

-- nothing is put later, and nothing was written
pub record IsSilent (later : List ℕ → List ℕ) (begun written : Option (List ℕ)) : Type 0 where
  pub none : (more : List ℕ) → later more ≡ []
  pub same : written ≡ begun

abbrev pub Silent : (List ℕ → List ℕ) → (List ℕ → List ℕ) → Option (List ℕ) → Option (List ℕ) → Type 0
Silent text later begun written = ((more : List ℕ) → text more ≡ []) → IsSilent later begun written

pub silent_none : (text : List ℕ → List ℕ) (begun : Option (List ℕ)) → Silent text text begun begun
silent_none text begun none = record { none = none; same = refl }

no_parts : (xs ys : List ℕ) → xs ++ ys ≡ [] → (xs ≡ []) × (ys ≡ [])
no_parts [] ys e = (refl, e)
no_parts (x ∷ xs) ys e = absurd cc

pub silent_read : {X : Type 0} (text mid later : List ℕ → List ℕ) (then last : List ℕ → X) (begun written wrote : Option (List ℕ)) (piece old new : List ℕ) → Silent text mid begun written → old ≡ []
    → ReadsOn mid later then last piece old new → (new ≡ [] → wrote ≡ written) → Silent text later begun wrote
silent_read text mid later then last begun written wrote piece old new silent empty r same none =
    let s = silent none in
    let parts : (more : List ℕ) → (r.put ≡ []) × (later more ≡ []) = λ more. no_parts r.put (later more) (sym (r.puts more) ∙ s.none (piece ++ more)) in
    record { none = λ more. (parts more).1; same = same (r.added ∙ ap (λ (l : List ℕ). l ++ r.put) empty ∙ (parts []).0) ∙ s.same }

pub silent_end : (text later : List ℕ → List ℕ) (begun written wrote : Option (List ℕ)) → Silent text later begun written → (((more : List ℕ) → later more ≡ []) → wrote ≡ written)
    → ((more : List ℕ) → text more ≡ []) → wrote ≡ begun
silent_end text later begun written wrote silent same none = let s = silent none in same s.none ∙ s.same

-- ---- outcomes

pub on_err : {T E : Type 0} (r : Result T E) (P : Type 0) → P → OnErr r P
on_err (Ok x) P p = tt
on_err (Err e) P p = p

pub err_then : {T E : Type 0} (r : Result T E) (P Q : Type 0) → (P → Q) → OnErr r P → OnErr r Q
err_then (Ok x) P Q f p = tt
err_then (Err e) P Q f p = f p

pub ok_then : {T E : Type 0} (r : Result T E) (P Q : T → Type 0) → ((x : T) → P x → Q x) → IfOk r P → IfOk r Q
ok_then (Ok x) P Q f p = f x p
ok_then (Err e) P Q f p = tt
