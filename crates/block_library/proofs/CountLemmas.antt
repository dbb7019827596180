-- How many packets a block gives for what was fed.
use Rattle.std.proofs.Common.{◌≡◌, ◌+◌, ◌*◌, ◌≤◌, ◌++◌, [], ◌∷◌, ℕ, zero, suc, List, true, false, cond, arith, length, length-append, map, ◌==◌, ◌&&◌, not}
use Rattle.std.specs.List.{flat_map, range_with_len}
use Rattle.std.proofs.Math.Nat.{mul-le-mul_left, mul_comm}
use Rattle.std.proofs.lemmas.List.FromFn.{length-map-range_with_len}
use Rattle.chdr_packets.specs.declared.packet.Packet.{Packet}
use Rattle.chdr_packets.specs.declared.packet.Body.TheVariants.{Samples}
use Rattle.block_library.specs.declared.kind.BlockKind.{BlockKind}
use Rattle.block_library.specs.declared.kind.BlockKind.TheVariants.{Tx, Rx, Fifo, Split, Keep, Repeat, Replay, Switch, Sink}
use Rattle.block_library.specs.Blocks.{Lists, FitsKind, samples_in, payload_in, time_in, kept_samples, kept_packets, resampled, repeated_part, repeated_packet, closes, groups, replayed_group, block_of}
use Rattle.block_library.specs.Memory.{gives, gives_by}
use Rattle.block_library.specs.Within.{factor, most_given, FewAreGiven, FewAreGivenInAll}

resampled-few : (p : Packet) (payload : List ℕ) → length (resampled p payload) ≤ 1
resampled-few p payload =
    elim (length payload == 0 && not p.eob)
    as (λ b. length (cond b [] (record p { body = Samples (time_in p.body) payload } ∷ [])) ≤ 1)
    [ true ↦ omega arith | false ↦ omega arith ]

repeated-few : (n item : ℕ) (p : Packet) → 1 ≤ n → length (repeated_packet n item p) ≤ n
unfolding repeated_packet
repeated-few n item p some =
    elim (samples_in item p == 0)
    as (λ b. length (cond b (p ∷ []) (map (repeated_part n item p) (range_with_len 0 n))) ≤ n)
    [ true ↦ omega arith | false ↦ omega (arith, length-map-range_with_len (repeated_part n item p) 0 n) ]

turns : (group : List Packet) (first n : ℕ) → length (flat_map (λ _. group) (range_with_len first n)) ≡ n * length group
turns group first zero = omega arith
turns group first (suc n) =
    omega (arith, length-append group (flat_map (λ _. group) (range_with_len (first + 1) n)), turns group (first + 1) n)

replayed-count : (n : ℕ) (group : List Packet) → length (replayed_group n group) ≡ n * length group
unfolding replayed_group
replayed-count n group = turns group 0 n

closed-few : (n : ℕ) (group : List Packet) (p : Packet) →
    length (cond (closes group p) (replayed_group n (group ++ p ∷ [])) []) ≤ n * (length group + 1)
closed-few n group p =
    elim (closes group p)
    as (λ b. length (cond b (replayed_group n (group ++ p ∷ [])) []) ≤ n * (length group + 1)) [
      | true ↦ simp (replayed-count, length-append) (omega arith)
      | false ↦ omega arith
    ]

gives_by-few : (kind : BlockKind) (item phase : ℕ) (group : List Packet) (port : ℕ) (p : Packet) → FitsKind kind →
    (length (gives_by kind item phase group port p).first ≤ factor kind * (length group + 1))
    × (length (gives_by kind item phase group port p).second ≤ factor kind * (length group + 1))
gives_by-few Tx item phase group port p f = (omega arith, omega arith)
gives_by-few Rx item phase group port p f = (omega arith, omega arith)
gives_by-few Fifo item phase group port p f = (omega arith, omega arith)
gives_by-few Split item phase group port p f = (omega arith, omega arith)
gives_by-few (Keep n) item phase group port p f =
    (omega (arith, resampled-few p (kept_samples n item phase (payload_in p.body) (samples_in item p))), omega arith)
gives_by-few (Repeat n) item phase group port p f =
    (omega (arith, repeated-few n item p f.0, mul-le-mul_left n (let one : 1 ≤ length group + 1 = omega arith in one)), omega arith)
gives_by-few (Replay n) item phase group port p f = (closed-few n group p, omega arith)
gives_by-few (Switch n) item phase group port p f = (
  elim (port == n) as (λ b. length (cond b (p ∷ []) []) ≤ 1 * (length group + 1)) [ true ↦ omega arith | false ↦ omega arith ],
  omega arith,
)
gives_by-few Sink item phase group port p f = (omega arith, omega arith)

kept_packets-few : (n item first : ℕ) (ps : List Packet) → length (kept_packets n item first ps) ≤ length ps
unfolding kept_packets
kept_packets-few n item first [] = omega arith
kept_packets-few n item first (p ∷ ps) =
    let here : List Packet = resampled p (kept_samples n item first (payload_in p.body) (samples_in item p)) in
    omega (
      arith,
      resampled-few p (kept_samples n item first (payload_in p.body) (samples_in item p)),
      length-append here (kept_packets n item (first + samples_in item p) ps),
      kept_packets-few n item (first + samples_in item p) ps,
    )

repeats-few : (n item : ℕ) (ps : List Packet) → 1 ≤ n → length (flat_map (repeated_packet n item) ps) ≤ length ps * n
repeats-few n item [] some = omega arith
repeats-few n item (p ∷ ps) some =
    omega (arith, length-append (repeated_packet n item p) (flat_map (repeated_packet n item) ps), repeated-few n item p some, repeats-few n item ps some)

replays-few : (n : ℕ) (group ps : List Packet) → length (flat_map (replayed_group n) (groups group ps)) ≤ (length group + length ps) * n
unfolding groups
replays-few n group [] = omega arith
replays-few n group (p ∷ ps) =
    let whole : List Packet = group ++ p ∷ [] in
    let long : length whole ≡ length group + 1 = length-append group (p ∷ []) in
    let times : length (replayed_group n whole) ≡ n * length whole = replayed-count n whole in
    elim (closes group p)
    as (λ b. length (flat_map (replayed_group n) (cond b (whole ∷ groups [] ps) (groups whole ps))) ≤ (length group + length (p ∷ ps)) * n) [
      | true ↦
          let more : (length group + 1) * n ≡ n * length whole = rw long (mul_comm (length group + 1) n) in
          omega (arith, more, times, length-append (replayed_group n whole) (flat_map (replayed_group n) (groups [] ps)), replays-few n [] ps)
      | false ↦
          let same : (length group + length (p ∷ ps)) ≡ length whole + length ps = omega arith in
          rw same (replays-few n whole ps)
    ]

block_of-few : (kind : BlockKind) (item : ℕ) (fed : Lists) → FitsKind kind →
    (length (block_of kind item fed).first ≤ most_given kind fed) × (length (block_of kind item fed).second ≤ most_given kind fed)
unfolding block_of
block_of-few Tx item fed f = (omega arith, omega arith)
block_of-few Rx item fed f = (omega arith, omega arith)
block_of-few Fifo item fed f = (omega arith, omega arith)
block_of-few Split item fed f = (omega arith, omega arith)
block_of-few (Keep n) item fed f = (kept_packets-few n item 0 fed.first, omega arith)
block_of-few (Repeat n) item fed f = (repeats-few n item fed.first f.0, omega arith)
block_of-few (Replay n) item fed f = (omega (arith, replays-few n [] fed.first), omega arith)
block_of-few (Switch n) item fed f = (
  elim (n == 0)
      as (λ b. length (cond b fed.first fed.second) ≤ cond b (length fed.first) (length fed.second))
      [ true ↦ omega arith | false ↦ omega arith ],
  omega arith,
)
block_of-few Sink item fed f = (omega arith, omega arith)

pub few_are_given : FewAreGiven
unfolding gives
few_are_given kept port p fits = gives_by-few kept.kind kept.item kept.phase kept.group port p fits

pub few_are_given_in_all : FewAreGivenInAll
few_are_given_in_all kind item fed fits = block_of-few kind item fed fits
