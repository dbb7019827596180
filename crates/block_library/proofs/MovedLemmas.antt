-- What is made beforehand, with the packets that are moved behind it, is what a block gives.
use Rattle.std.proofs.Common.{◌≡◌, ◌+◌, ◌-◌, ◌*◌, ◌/◌, ◌%◌, ◌++◌, ◌&&◌, ◌≤◌, ℕ, zero, suc, List, [], ◌∷◌, Bool, true, false, cond, nat_eq, length, take, map, refl, sym, ◌∙◌, ap, arith, append-nil}
use Rattle.std.proofs.lemmas.Bool.{eqb-true}
use Rattle.std.proofs.lemmas.List.{take_all}
use Rattle.std.proofs.lemmas.Nat.{div-add-mod'}
use Rattle.std.proofs.Math.Nat.{mul_comm}
use Rattle.std.proofs.Math.Seq.{take-add}
use Rattle.std.specs.List.{flat_map, range_with_len}
use Rattle.chdr_packets.specs.declared.packet.Packet.{Packet}
use Rattle.chdr_packets.specs.declared.packet.Body.{Body}
use Rattle.chdr_packets.specs.declared.packet.Body.TheVariants.{Samples, Status, Command, Control, Management}
use Rattle.block_library.specs.declared.kind.BlockKind.{BlockKind}
use Rattle.block_library.specs.declared.kind.BlockKind.TheVariants.{Tx, Rx, Fifo, Split, Keep, Repeat, Replay, Switch, Sink}
use Rattle.block_library.specs.Blocks.{FitsKind, holds_samples, samples_in, sample_at, payload_in, time_in, kept_samples, passes_whole, is_left_out, resampled, repeated_samples, repeated_part, repeated_packet, closes, replayed_group}
use Rattle.block_library.specs.Memory.{gives_by, made_by, moved_by}
use Rattle.block_library.proofs.BlockLemmas.{flat_map-same}
use Rattle.block_library.proofs.SampleLemmas.{flat_map_more}

-- the first samples of a payload are its front
front_samples : (item : ℕ) (payload : List ℕ) (count : ℕ) → flat_map (sample_at item payload) (range_with_len 0 count) ≡ take (item * count) payload
front_samples item payload zero = let z : item * 0 ≡ 0 = omega arith in rw z refl
front_samples item payload (suc count) =
    let one : suc count ≡ count + 1 = omega arith in
    let size : item * suc count ≡ item * count + item = omega arith in
    ap (λ m. flat_map (sample_at item payload) (range_with_len 0 m)) one
    ∙ flat_map_more (sample_at item payload) 0 count count (omega arith)
    ∙ ap (λ xs. xs ++ sample_at item payload count) (front_samples item payload count)
    ∙ sym (take-add (item * count) item payload)
    ∙ ap (λ m. take m payload) (sym size)

-- all of them are the payload if it holds whole samples
all_samples : (item : ℕ) (payload : List ℕ) → length payload % item ≡ 0 →
    flat_map (sample_at item payload) (range_with_len 0 (length payload / item)) ≡ payload
all_samples item payload h =
    let parts = div-add-mod' (length payload) item in
    let turned = mul_comm (length payload / item) item in
    front_samples item payload (length payload / item)
    ∙ take_all (item * (length payload / item)) payload (omega (arith, parts, turned, h))

-- 1 divides each number, so keep leaves all samples
kept_all : (item first : ℕ) (payload : List ℕ) → length payload % item ≡ 0 → kept_samples 1 item first payload (length payload / item) ≡ payload
kept_all item first payload h =
    flat_map-same (λ i. cond (nat_eq ((first + i) % 1) 0) (sample_at item payload i) []) (sample_at item payload)
    (λ i. let z : (first + i) % 1 ≡ 0 = omega arith in ap (λ m. cond (nat_eq m 0) (sample_at item payload i) []) z) _
    ∙ all_samples item payload h

-- and repeat takes each once
repeated_all : (item : ℕ) (payload : List ℕ) (first : ℕ) → first ≡ 0 → length payload % item ≡ 0 →
    repeated_samples 1 item payload first (length payload / item) ≡ payload
repeated_all item payload first e h =
    ap (λ m. repeated_samples 1 item payload m (length payload / item)) e
    ∙ flat_map-same (λ i. sample_at item payload (i / 1)) (sample_at item payload)
    (λ i. let z : i / 1 ≡ i = omega arith in ap (sample_at item payload) z) _
    ∙ all_samples item payload h

-- a body that holds samples is that of its time and payload
held_body : (item : ℕ) (b : Body) → holds_samples item b ≡ true → (Samples (time_in b) (payload_in b) ≡ b) × (length (payload_in b) % item ≡ 0)
held_body item (Samples time payload) h = (refl, eqb-true _ _ h)
held_body item (Status status) h = absurd cc
held_body item (Command command) h = absurd cc
held_body item (Control control) h = absurd cc
held_body item (Management management) h = absurd cc

-- keep by 1 passes a packet
kept_one : (item phase : ℕ) (p : Packet) → holds_samples item p.body ≡ true →
    resampled p (kept_samples 1 item phase (payload_in p.body) (samples_in item p)) ≡ cond (is_left_out p) [] (p ∷ [])
kept_one item phase p h =
    let held = held_body item p.body h in
    ap (resampled p) (kept_all item phase (payload_in p.body) held.1)
    ∙ ap (λ (b : Body). cond (is_left_out p) [] (record p { body = b } ∷ [])) held.0

and_true : (b : Bool) → (b && true) ≡ b
and_true true = refl
and_true false = refl

-- repeat by 1 makes of a packet itself
repeated_one : (item : ℕ) (p : Packet) → holds_samples item p.body ≡ true → repeated_packet 1 item p ≡ p ∷ []
unfolding repeated_packet
repeated_one item p h = cases (nat_eq (samples_in item p) 0)
  where
    part : repeated_part 1 item p 0 ≡ p
    part =
        let held = held_body item p.body h in
        let z : 0 * samples_in item p ≡ 0 = omega arith in
        ap (λ (xs : List ℕ). record p { eob = p.eob && true; eov = p.eov && true; body = Samples (time_in p.body) xs }) (repeated_all item (payload_in p.body) (0 * samples_in item p) z held.1)
        ∙ ap (λ (b : Body). record p { eob = p.eob && true; eov = p.eov && true; body = b }) held.0
        ∙ ap (λ (b : Bool). record p { eob = b; eov = p.eov && true }) (and_true p.eob)
        ∙ ap (λ (b : Bool). record p { eov = b }) (and_true p.eov)

    cases : (empty : Bool) → cond empty (p ∷ []) (map (repeated_part 1 item p) (range_with_len 0 1)) ≡ p ∷ []
    cases true = refl
    cases false = ap (λ (q : Packet). q ∷ []) part

-- a packet that is passed is of whole samples, and n is 1
passed : (n item : ℕ) (p : Packet) → passes_whole n item p ≡ true → (n ≡ 1) × (holds_samples item p.body ≡ true)
passed n item p e = parts (nat_eq n 1) (holds_samples item p.body) refl refl e
  where
    parts : (one held : Bool) → nat_eq n 1 ≡ one → holds_samples item p.body ≡ held → (one && held) ≡ true → (n ≡ 1) × (holds_samples item p.body ≡ true)
    parts true true a b e = (eqb-true n 1 a, b)
    parts true false a b e = absurd cc
    parts false held a b e = absurd cc

keeps : (n item phase : ℕ) (p : Packet) → cond (passes_whole n item p) [] (resampled p (kept_samples n item phase (payload_in p.body) (samples_in item p)))
    ++ cond (passes_whole n item p) (cond (is_left_out p) [] (p ∷ [])) [] ≡ resampled p (kept_samples n item phase (payload_in p.body) (samples_in item p))
keeps n item phase p = cases (passes_whole n item p) refl
  where
    cases : (b : Bool) → passes_whole n item p ≡ b → cond b [] (resampled p (kept_samples n item phase (payload_in p.body) (samples_in item p)))
        ++ cond b (cond (is_left_out p) [] (p ∷ [])) [] ≡ resampled p (kept_samples n item phase (payload_in p.body) (samples_in item p))
    cases true e =
        let is = passed n item p e in
        sym (ap (λ m. resampled p (kept_samples m item phase (payload_in p.body) (samples_in item p))) is.0 ∙ kept_one item phase p is.1)
    cases false e = append-nil (resampled p (kept_samples n item phase (payload_in p.body) (samples_in item p)))

repeats : (n item : ℕ) (p : Packet) → cond (passes_whole n item p) [] (repeated_packet n item p) ++ cond (passes_whole n item p) (p ∷ []) [] ≡ repeated_packet n item p
repeats n item p = cases (passes_whole n item p) refl
  where
    cases : (b : Bool) → passes_whole n item p ≡ b → cond b [] (repeated_packet n item p) ++ cond b (p ∷ []) [] ≡ repeated_packet n item p
    cases true e =
        let is = passed n item p e in
        sym (ap (λ m. repeated_packet m item p) is.0 ∙ repeated_one item p is.1)
    cases false e = append-nil (repeated_packet n item p)

-- a group once more
once_more : (n : ℕ) (group : List Packet) → 1 ≤ n → replayed_group (n - 1) group ++ group ≡ replayed_group n group
unfolding replayed_group
once_more n group low =
    let e : n - 1 + 1 ≡ n = omega arith in
    sym (flat_map_more (λ _. group) 0 (n - 1) (n - 1) (omega arith)) ∙ ap (λ m. flat_map (λ _. group) (range_with_len 0 m)) e

replays : (n : ℕ) (group : List Packet) (p : Packet) → 1 ≤ n →
    cond (closes group p) (replayed_group (n - 1) (group ++ p ∷ [])) [] ++ cond (closes group p) (group ++ p ∷ []) [] ≡ cond (closes group p) (replayed_group n (group ++ p ∷ [])) []
replays n group p low = cases (closes group p)
  where
    cases : (b : Bool) → cond b (replayed_group (n - 1) (group ++ p ∷ [])) [] ++ cond b (group ++ p ∷ []) [] ≡ cond b (replayed_group n (group ++ p ∷ [])) []
    cases true = once_more n (group ++ p ∷ []) low
    cases false = refl

-- the first output of a feed
pub given_first : (kind : BlockKind) (item phase : ℕ) (group : List Packet) (port : ℕ) (p : Packet) → FitsKind kind →
    (made_by kind item phase group p).first ++ moved_by kind item group port p ≡ (gives_by kind item phase group port p).first
given_first Tx item phase group port p fits = refl
given_first Rx item phase group port p fits = refl
given_first Fifo item phase group port p fits = refl
given_first Split item phase group port p fits = refl
given_first (Keep n) item phase group port p fits = keeps n item phase p
given_first (Repeat n) item phase group port p fits = repeats n item p
given_first (Replay n) item phase group port p fits = replays n group p fits.0
given_first (Switch n) item phase group port p fits = refl
given_first Sink item phase group port p fits = refl

-- the second
pub given_second : (kind : BlockKind) (item phase : ℕ) (group : List Packet) (port : ℕ) (p : Packet) →
    (made_by kind item phase group p).second ≡ (gives_by kind item phase group port p).second
given_second Tx item phase group port p = refl
given_second Rx item phase group port p = refl
given_second Fifo item phase group port p = refl
given_second Split item phase group port p = refl
given_second (Keep n) item phase group port p = refl
given_second (Repeat n) item phase group port p = refl
given_second (Replay n) item phase group port p = refl
given_second (Switch n) item phase group port p = refl
given_second Sink item phase group port p = refl
