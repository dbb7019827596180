-- The next packet of a producer's list, and lists that begin others.
use Rattle.std.proofs.Common.{◌≡◌, ℕ, zero, suc, take, drop, ◌<◌, ◌≤◌, List, [], ◌∷◌, ◌++◌, length, ap, refl, ◌∙◌, sym, subst}
use Rattle.std.proofs.Common.{append-nil, length-append, append_assoc, arith}
use Rattle.std.specs.Prelude.{Some, slice_get}
use mathlib.Core.List.{IsPrefix}
use Rattle.std.proofs.lemmas.Option.{slice_get-get_or}
use Rattle.chdr_packets.specs.declared.packet.Packet.{Packet}
use Rattle.block_library.proofs.Laws.{produced_is_by_place}
use Rattle.block_library.specs.Producer.{packet_of, produced}
use Rattle.block_library.specs.declared.plan.TxPlan.{TxPlan}

-- packet k of a Tx stands at place k of its list
pub next_produced : (plan : TxPlan) (k : ℕ) → k < plan.packets → slice_get (produced plan) k ≡ Some (packet_of plan k)
next_produced plan k near = let d = packet_of plan k in
    slice_get-get_or (produced plan) k d (subst (λ (n : ℕ). k < n) (sym (produced_is_by_place.0 plan)) near)
    ∙ ap Some (produced_is_by_place.1 plan k d near)

nothing : {A : Type 0} (xs : List A) → length xs ≡ 0 → xs ≡ []
nothing [] none = refl
nothing (x ∷ xs) none = absurd (omega arith)

drop_all : {A : Type 0} (n : ℕ) (xs : List A) → length xs ≡ n → drop n xs ≡ []
drop_all zero [] is = refl
drop_all zero (x ∷ xs) is = absurd (omega arith)
drop_all (suc n) [] is = refl
drop_all (suc n) (x ∷ xs) is = drop_all n xs (omega arith)

take_all : {A : Type 0} (n : ℕ) (xs : List A) → length xs ≡ n → take n xs ≡ xs
take_all zero [] is = refl
take_all zero (x ∷ xs) is = absurd (omega arith)
take_all (suc n) [] is = refl
take_all (suc n) (x ∷ xs) is = ap (λ ys. x ∷ ys) (take_all n xs (omega arith))

module _ {A : Type 0} where
  pub begins_itself : (xs : List A) → IsPrefix xs xs
  begins_itself xs = ([], append-nil xs)

  pub begins_grown : (xs zs : List A) → IsPrefix xs (xs ++ zs)
  begins_grown xs zs = (zs, refl)

  pub begins_chain : (xs ys zs : List A) → IsPrefix xs ys → IsPrefix ys zs → IsPrefix xs zs
  begins_chain xs ys zs p q = (
    p.0 ++ q.0,
    sym (append_assoc xs p.0 q.0) ∙ ap (λ (l : List A). l ++ q.0) p.1 ∙ q.1,
  )

  pub begins_more : (xs ys : List A) (x : A) → IsPrefix xs ys → IsPrefix xs (ys ++ x ∷ [])
  begins_more xs ys x p = begins_chain xs ys (ys ++ x ∷ []) p (begins_grown ys (x ∷ []))

  -- a beginning that is no shorter is the whole
  pub whole : (xs ys : List A) → IsPrefix xs ys → length ys ≤ length xs → xs ≡ ys
  whole xs ys p few = let a = length-append xs p.0 in let b = ap length p.1 in
      sym (append-nil xs) ∙ ap (λ l. xs ++ l) (sym (nothing p.0 (omega arith))) ∙ p.1

  -- what is written over all of a vector's items is what it holds
  pub kept : (len : ℕ) (s items : List A) → length s ≡ length items → len ≡ length items → take len (s ++ drop (length s) items) ≡ s
  kept len s items same is = ap (λ l. take len (s ++ l)) (drop_all (length s) items (omega arith)) ∙ ap (take len) (append-nil s) ∙ take_all len s (omega arith)

pub ruleset lists = (next_produced, begins_itself, begins_more, begins_chain, whole)
