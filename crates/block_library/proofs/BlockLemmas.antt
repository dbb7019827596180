-- What a block gives grows packet by packet, and what it keeps says how.
use Rattle.std.proofs.Common.{◌≡◌, ◌+◌, ◌%◌, ◌++◌, ◌∙◌, [], ◌∷◌, ℕ, List, true, false, cond, sym, ap, refl, append_assoc, arith, add-zero, nat_eq, ◌*◌, ◌/◌}
use Rattle.std.proofs.Math.Nat.{mod-add-div, add-mul-mod_self_left}
use Rattle.std.specs.List.{flat_map, range_with_len, sum_by}
use Rattle.std.proofs.lemmas.List.Sums.{sum_by-cons}
use Rattle.chdr_packets.specs.declared.packet.Packet.{Packet}
use Rattle.block_library.specs.Blocks.{samples_in, sample_at, payload_in, kept_samples, kept_packets, resampled, closes, groups, open_group}

-- keep: the packets after others go on with the number of their first sample
pub kept_packets-append : (n item first : ℕ) (ps qs : List Packet) →
    kept_packets n item first (ps ++ qs) ≡
    kept_packets n item first ps ++ kept_packets n item (first + sum_by (samples_in item) ps) qs
unfolding kept_packets
kept_packets-append n item first [] qs = rw add-zero refl
kept_packets-append n item first (p ∷ ps) qs =
    let here : List Packet = resampled p (kept_samples n item first (payload_in p.body) (samples_in item p)) in
    let next : ℕ = first + samples_in item p in
    let e : next + sum_by (samples_in item) ps ≡ first + sum_by (samples_in item) (p ∷ ps) =
    omega (arith, sum_by-cons (samples_in item) p ps) in
    ap (λ xs. here ++ xs) (kept_packets-append n item next ps qs)
    ∙ sym (append_assoc here (kept_packets n item next ps) (kept_packets n item (next + sum_by (samples_in item) ps) qs))
    ∙ ap (λ m. (here ++ kept_packets n item next ps) ++ kept_packets n item m qs) e

-- a number added under %
pub mod_first : (first n i : ℕ) → (first % n + i) % n ≡ (first + i) % n
mod_first first n i =
    let e : first + i ≡ (first % n + i) + n * (first / n) = omega (arith, mod-add-div first n) in
    sym (ap (λ m. m % n) e ∙ add-mul-mod_self_left (first % n + i) n (first / n))

-- the same pieces make the same list
pub flat_map-same : {X A : Type 0} (f g : X → List A) → ((x : X) → f x ≡ g x) → (xs : List X) → flat_map f xs ≡ flat_map g xs
flat_map-same f g e [] = refl
flat_map-same f g e (x ∷ xs) = rw (e x, flat_map-same f g e xs) refl

-- the same samples are kept where the first number is the same modulo n
pub kept_samples-mod : (n item first : ℕ) (payload : List ℕ) (count : ℕ) →
    kept_samples n item (first % n) payload count ≡ kept_samples n item first payload count
kept_samples-mod n item first payload count =
    flat_map-same (λ i. cond (nat_eq ((first % n + i) % n) 0) (sample_at item payload i) [])
    (λ i. cond (nat_eq ((first + i) % n) 0) (sample_at item payload i) [])
    (λ i. ap (λ m. cond (nat_eq m 0) (sample_at item payload i) []) (mod_first first n i))
    (range_with_len 0 count)

-- replay: whole groups, and the open one
pub groups-append : (group ps qs : List Packet) →
    groups group (ps ++ qs) ≡ groups group ps ++ groups (open_group group ps) qs
unfolding groups open_group
groups-append group [] qs = refl
groups-append group (p ∷ ps) qs =
    elim (closes group p)
    as (λ b. cond b ((group ++ p ∷ []) ∷ groups [] (ps ++ qs)) (groups (group ++ p ∷ []) (ps ++ qs)) ≡
    cond b ((group ++ p ∷ []) ∷ groups [] ps) (groups (group ++ p ∷ []) ps)
    ++ groups (cond b (open_group [] ps) (open_group (group ++ p ∷ []) ps)) qs) [
      | true ↦ ap (λ gs. (group ++ p ∷ []) ∷ gs) (groups-append [] ps qs)
      | false ↦ groups-append (group ++ p ∷ []) ps qs
    ]

pub open_group-append : (group ps qs : List Packet) →
    open_group group (ps ++ qs) ≡ open_group (open_group group ps) qs
unfolding open_group
open_group-append group [] qs = refl
open_group-append group (p ∷ ps) qs =
    elim (closes group p)
    as (λ b. cond b (open_group [] (ps ++ qs)) (open_group (group ++ p ∷ []) (ps ++ qs)) ≡
    open_group (cond b (open_group [] ps) (open_group (group ++ p ∷ []) ps)) qs)
    [ true ↦ open_group-append [] ps qs | false ↦ open_group-append (group ++ p ∷ []) ps qs ]
