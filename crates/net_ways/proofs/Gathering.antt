-- What is picked along queues follows them.
use Rattle.std.proofs.Common.{◌≡◌, ◌≢◌, ℕ, ◌≤◌, ◌<◌, ◌⊎◌, inl, inr, List, [], ◌∷◌, ◌++◌, length, refl, sym, ◌∙◌, ap, arith, set, append_assoc, append-nil}
use Rattle.std.specs.List.{flat_map}
use Rattle.std.proofs.lemmas.Bool.{cases_lt}
use Rattle.std.proofs.lemmas.Grind.{flat_map-append}
use Rattle.std.proofs.lemmas.List.{get_or-set_same, get_or-set_other, length-set, set_past}
use Rattle.net_topology.specs.Links.{Avoids, NoneTwice}
use Rattle.net_ways.specs.Gather.{list_at, gather, IsBlind, Joins, Moves, Comes, Loses}

-- a queue off the way may change
pub gather-off : {A X : Type 0} (pick : A → List X) (queues : List (List A)) (qs : List ℕ) (q : ℕ) (new : List A) →
    Avoids q qs → gather pick (set queues q new) qs ≡ gather pick queues qs
gather-off pick queues [] q new off = refl
gather-off pick queues (r ∷ qs) q new off =
    rw (gather-off pick queues qs q new off.1, get_or-set_other queues q r new [] (λ e. off.0 (sym e))) refl

same-or-not : (q r : ℕ) → (r ≡ q) ⊎ (r ≢ q)
same-or-not q r = by_order (cases_lt r q) (cases_lt q r)
  where
    by_order : (r < q) ⊎ (q ≤ r) → (q < r) ⊎ (r ≤ q) → (r ≡ q) ⊎ (r ≢ q)
    by_order (inl below) other = inr (λ e. omega arith)
    by_order (inr least) (inl above) = inr (λ e. omega arith)
    by_order (inr least) (inr most) = inl (omega arith)

-- a queue that is there changes
blind-there : {A X : Type 0} (pick : A → List X) (queues : List (List A)) (qs : List ℕ) (q : ℕ) (new : List A) → q < length queues →
    flat_map pick new ≡ flat_map pick (list_at queues q) → gather pick (set queues q new) qs ≡ gather pick queues qs
blind-there pick queues [] q new lt same = refl
blind-there pick queues (r ∷ qs) q new lt same = by_place (blind-there pick queues qs q new lt same) (same-or-not q r)
  where
    by_place : gather pick (set queues q new) qs ≡ gather pick queues qs → (r ≡ q) ⊎ (r ≢ q) →
        gather pick (set queues q new) (r ∷ qs) ≡ gather pick queues (r ∷ qs)
    by_place rest (inl is) = rw (rest, is, get_or-set_same queues q new [] lt, same) refl
    by_place rest (inr not) = rw (rest, get_or-set_other queues q r new [] not) refl

pub gather-blind : {A X : Type 0} → IsBlind A X
gather-blind pick queues qs q new same = by_range (cases_lt q (length queues))
  where
    by_range : (q < length queues) ⊎ (length queues ≤ q) → gather pick (set queues q new) qs ≡ gather pick queues qs
    by_range (inl lt) = blind-there pick queues qs q new lt same
    by_range (inr past) = rw (set_past queues q new past) refl

pub gather-joins : {A X : Type 0} → Joins A X
gather-joins pick queues q qs e lt off =
    rw (
      gather-off pick queues qs q (list_at queues q ++ e ∷ []) off,
      get_or-set_same queues q (list_at queues q ++ e ∷ []) [] lt,
      flat_map-append pick (list_at queues q) (e ∷ []),
    )
    (ap (λ xs. gather pick queues qs ++ (flat_map pick (list_at queues q) ++ xs)) (append-nil (pick e))
    ∙ sym (append_assoc (gather pick queues qs) (flat_map pick (list_at queues q)) (pick e)))

-- what stands behind a place of the way, and what before it
gather-append : {A X : Type 0} (pick : A → List X) (queues : List (List A)) (before behind : List ℕ) →
    gather pick queues (before ++ behind) ≡ gather pick queues behind ++ gather pick queues before
gather-append pick queues [] behind = sym (append-nil (gather pick queues behind))
gather-append pick queues (q ∷ before) behind =
    ap (λ xs. xs ++ flat_map pick (list_at queues q)) (gather-append pick queues before behind)
    ∙ append_assoc (gather pick queues behind) (gather pick queues before) (flat_map pick (list_at queues q))

-- of a list without a number twice, the rest doesn't have a number of the front
pub none_twice-behind : (before : List ℕ) (q : ℕ) (behind : List ℕ) → NoneTwice (before ++ q ∷ behind) → Avoids q behind × NoneTwice behind
none_twice-behind [] q behind none = none
none_twice-behind (r ∷ before) q behind none = none_twice-behind before q behind none.1

avoids-front : (r : ℕ) (before : List ℕ) (q : ℕ) (behind : List ℕ) → Avoids r (before ++ q ∷ behind) → r ≢ q
avoids-front r [] q behind off = off.0
avoids-front r (x ∷ before) q behind off = avoids-front r before q behind off.1

none_twice-before : (before : List ℕ) (q : ℕ) (behind : List ℕ) → NoneTwice (before ++ q ∷ behind) → Avoids q before
none_twice-before [] q behind none = tt
none_twice-before (r ∷ before) q behind none =
    (λ e. avoids-front r before q behind none.0 (sym e), none_twice-before before q behind none.1)

-- a queue in the midst of the way: what is behind, in it, and before it
gather-amid : {A X : Type 0} (pick : A → List X) (queues : List (List A)) (before : List ℕ) (q : ℕ) (behind : List ℕ) →
    gather pick queues (before ++ q ∷ behind)
    ≡ gather pick queues behind ++ (flat_map pick (list_at queues q) ++ gather pick queues before)
gather-amid pick queues before q behind =
    gather-append pick queues before (q ∷ behind)
    ∙ append_assoc (gather pick queues behind) (flat_map pick (list_at queues q)) (gather pick queues before)

-- that queue changes
gather-changes : {A X : Type 0} (pick : A → List X) (queues : List (List A)) (before : List ℕ) (q : ℕ) (behind : List ℕ) (new : List A) →
    q < length queues → NoneTwice (before ++ q ∷ behind) →
    gather pick (set queues q new) (before ++ q ∷ behind)
    ≡ gather pick queues behind ++ (flat_map pick new ++ gather pick queues before)
gather-changes pick queues before q behind new lt none =
    gather-amid pick (set queues q new) before q behind
    ∙ (rw (
      gather-off pick queues behind q new (none_twice-behind before q behind none).0,
      gather-off pick queues before q new (none_twice-before before q behind none),
      get_or-set_same queues q new [] lt,
    ) refl)

pub gather-comes : {A X : Type 0} → Comes A X
gather-comes pick queues before q e rest lt none is =
    gather-amid pick queues before q []
    ∙ ap (λ es. flat_map pick es ++ gather pick queues before) is
    ∙ append_assoc (pick e) (flat_map pick rest) (gather pick queues before)
    ∙ ap (λ xs. pick e ++ xs) (sym (gather-changes pick queues before q [] rest lt none))

pub gather-loses : {A X : Type 0} → Loses A X
gather-loses pick queues before q behind e rest lt none is = record {
  before = gather pick queues behind;
  behind = flat_map pick rest ++ gather pick queues before;
  with_it = gather-amid pick queues before q behind
      ∙ ap (λ es. gather pick queues behind ++ (flat_map pick es ++ gather pick queues before)) is
      ∙ ap (λ xs. gather pick queues behind ++ xs) (append_assoc (pick e) (flat_map pick rest) (gather pick queues before));
  without = gather-changes pick queues before q behind rest lt none;
}

avoids-second : (x : ℕ) (before : List ℕ) (q r : ℕ) (behind : List ℕ) → Avoids x (before ++ q ∷ r ∷ behind) → x ≢ r
avoids-second x [] q r behind off = off.1.0
avoids-second x (y ∷ before) q r behind off = avoids-second x before q r behind off.1

none_twice-earlier : (before : List ℕ) (q r : ℕ) (behind : List ℕ) → NoneTwice (before ++ q ∷ r ∷ behind) → Avoids r before
none_twice-earlier [] q r behind none = tt
none_twice-earlier (x ∷ before) q r behind none =
    (λ e. avoids-second x before q r behind none.0 (sym e), none_twice-earlier before q r behind none.1)

regroup : {X : Type 0} (g p m b : List X) → (g ++ p) ++ (m ++ b) ≡ g ++ ((p ++ m) ++ b)
regroup g p m b = append_assoc g p (m ++ b) ∙ ap (λ xs. g ++ xs) (sym (append_assoc p m b))

pub gather-moves : {A X : Type 0} → Moves A X
gather-moves pick queues before q r behind e f rest lq lr none is same =
    let first = set queues q rest in
    let then_ = set first r (list_at first r ++ f ∷ []) in
    let off = none_twice-behind before q (r ∷ behind) none in
    let near : q ≢ r = off.0.0 in
    let lr' : r < length first = rw (length-set queues q rest) lr in
    let ahead : gather pick then_ (r ∷ behind) ≡ gather pick queues (r ∷ behind) ++ pick e =
    gather-joins pick first r behind f lr' off.1.0
    ∙ (rw (same, gather-off pick queues (r ∷ behind) q rest off.0) refl) in
    let here : list_at then_ q ≡ rest =
    get_or-set_other first r q (list_at first r ++ f ∷ []) [] near ∙ get_or-set_same queues q rest [] lq in
    let back : gather pick then_ before ≡ gather pick queues before =
    gather-off pick first before r (list_at first r ++ f ∷ []) (none_twice-earlier before q r behind none)
    ∙ gather-off pick queues before q rest (none_twice-before before q (r ∷ behind) none) in
    gather-amid pick then_ before q (r ∷ behind)
    ∙ (rw (ahead, here, back) (regroup (gather pick queues (r ∷ behind)) (pick e) (flat_map pick rest) (gather pick queues before)))
    ∙ ap (λ es. gather pick queues (r ∷ behind) ++ (flat_map pick es ++ gather pick queues before)) (sym is)
    ∙ sym (gather-amid pick queues before q (r ∷ behind))
