-- What a block gives is within the bounds of what was fed.
use Rattle.std.proofs.Common.{◌≡◌, ◌+◌, ◌*◌, ◌/◌, ◌%◌, ◌<◌, ◌≤◌, ◌⊎◌, inl, inr, ◌++◌, ◌∙◌, [], ◌∷◌, ℕ, zero, suc, List, Bool, true, false, cond, sym, ap, refl, subst, arith, length, length-append, map, nat_eq, Option, None, All, ◌==◌, ◌&&◌, not, IsTrue, length-take, length-drop}
use Rattle.std.specs.Prelude.{IsSome, is_some}
use Rattle.std.specs.List.{flat_map, range_with_len}
use Rattle.std.proofs.Math.Nat.{mul-mod_left, mul-le-mul_left, mul_comm, mod-add-div}
use Rattle.std.proofs.lemmas.Nat.{div_below}
use Rattle.std.proofs.lemmas.List.Elements.{All-nil, All-cons, All-append, All-push, All-tail, All-head, All-map}
use Rattle.std.proofs.lemmas.List.FromFn.{length-range_with_len, get_or-range_with_len}
use Rattle.chdr_packets.specs.declared.packet.Packet.{Packet}
use Rattle.chdr_packets.specs.declared.packet.Body.TheVariants.{Samples}
use Rattle.block_library.specs.declared.kind.BlockKind.{BlockKind}
use Rattle.block_library.specs.declared.kind.BlockKind.TheVariants.{Tx, Rx, Fifo, Split, Keep, Repeat, Replay, Switch, Sink}
use Rattle.block_library.specs.Blocks.{Lists, samples_in, payload_in, time_in, sample_at, kept_samples, kept_packets, resampled, repeated_samples, repeated_part, repeated_packet, closes, groups, replayed_group, block_of}
use Rattle.block_library.specs.Memory.{gives, gives_by, after_feed, next_group}
use Rattle.block_library.specs.Within.{IsWithin, FedBoundsGiven, AllFedBoundGiven}

-- pieces of `item` bytes or of none: their bytes, by how many have some
record Pieces (item count : ℕ) (bytes : List ℕ) : Type 0 where
  pub number : ℕ
  pub few : number ≤ count
  pub size : length bytes ≡ number * item

pieces : (piece : ℕ → List ℕ) (item first count : ℕ) →
    ((i : ℕ) → first ≤ i → i < first + count → (length (piece i) ≡ item) ⊎ (length (piece i) ≡ 0)) →
    Pieces item count (flat_map piece (range_with_len first count))
pieces piece item first zero each = record { number = 0; few = omega arith; size = omega arith }
pieces piece item first (suc count) each =
    let rest : Pieces item count (flat_map piece (range_with_len (first + 1) count)) =
    pieces piece item (first + 1) count (λ i low high. each i (omega arith) (omega arith)) in
    by (each first (omega arith) (omega arith)) rest
  where
    by : (length (piece first) ≡ item) ⊎ (length (piece first) ≡ 0) → Pieces item count (flat_map piece (range_with_len (first + 1) count)) →
        Pieces item (suc count) (piece first ++ flat_map piece (range_with_len (first + 1) count))
    by (inl e) rest = record {
      number = rest.number + 1;
      few = let f = rest.few in omega arith;
      size = let s = rest.size in omega (arith, length-append (piece first) (flat_map piece (range_with_len (first + 1) count)));
    }
    by (inr e) rest = record {
      number = rest.number;
      few = let f = rest.few in omega arith;
      size = let s = rest.size in omega (arith, length-append (piece first) (flat_map piece (range_with_len (first + 1) count)));
    }

-- a sample that is whole in a payload
sample-whole : (item : ℕ) (payload : List ℕ) (i : ℕ) → i < length payload / item → 0 < item → length (sample_at item payload i) ≡ item
sample-whole item payload i h some =
    let whole : item * (i + 1) ≤ item * (length payload / item) = mul-le-mul_left item (omega arith) in
    simp (length-take, length-drop) (omega (arith, mod-add-div (length payload) item, whole))

-- as many whole samples as a payload has, or fewer, are no longer than it
holds_fewer : (item : ℕ) (payload : List ℕ) {bytes : List ℕ} → 0 < item → Pieces item (length payload / item) bytes →
    (length bytes % item ≡ 0) × (length bytes ≤ length payload)
holds_fewer item payload {bytes} some p =
    let whole : item * p.number ≤ item * (length payload / item) = mul-le-mul_left item p.few in
    let s = p.size in
    (ap (λ n. n % item) p.size ∙ mul-mod_left p.number item, omega (arith, mod-add-div (length payload) item, whole))

kept-pieces : (n item first : ℕ) (payload : List ℕ) → 0 < item →
    Pieces item (length payload / item) (kept_samples n item first payload (length payload / item))
kept-pieces n item first payload some =
    pieces (λ i. cond (nat_eq ((first + i) % n) 0) (sample_at item payload i) []) item 0 (length payload / item)
    (λ i low high. by i (omega arith) (nat_eq ((first + i) % n) 0))
  where
    by : (i : ℕ) → i < length payload / item → (b : Bool) →
        (length (cond b (sample_at item payload i) []) ≡ item) ⊎ (length (cond b (sample_at item payload i) []) ≡ 0)
    by i h true = inl (sample-whole item payload i h some)
    by i h false = inr refl

repeated-pieces : (n item : ℕ) (payload : List ℕ) (k : ℕ) → 0 < item → k < n →
    Pieces item (length payload / item)
    (repeated_samples n item payload (k * (length payload / item)) (length payload / item))
repeated-pieces n item payload k some turn =
    let count : ℕ = length payload / item in
    pieces (λ i. sample_at item payload (i / n)) item (k * count) count
    (λ i low high. inl
    (sample-whole item payload (i / n)
    (div_below i n count (omega arith) (let more : count * (k + 1) ≤ count * n = mul-le-mul_left count (omega arith) in omega (arith, more, mul_comm count n)))
    some))

module _ (item most : ℕ) (timed : Bool) (some : 0 < item) where
  abbrev W : Packet → Type 0
  W p = IsWithin item most timed p

  -- other samples of a packet, with its time or with none
  resized : (p : Packet) (payload : List ℕ) (eob eov : Bool) (time : Option ℕ) → W p →
      Pieces item (length (payload_in p.body) / item) payload → (IsSome time → IsTrue timed) →
      W (record p { eob = eob; eov = eov; body = Samples time payload })
  resized p payload eob eov time w few at =
      let h = holds_fewer item (payload_in p.body) some few in
      record {
        feed = record { vc = w.feed.vc; mdata = w.feed.mdata; body = h.0 };
        size = let s = w.size in let l = h.1 in omega arith;
        time = at;
      }

  resampled-within : (p : Packet) (payload : List ℕ) → W p → Pieces item (length (payload_in p.body) / item) payload →
      All W (resampled p payload)
  resampled-within p payload w few =
      elim (length payload == 0 && not p.eob)
      as (λ b. All W (cond b [] (record p { body = Samples (time_in p.body) payload } ∷ []))) [
        | true ↦ All-nil W
        | false ↦ All-cons W _ [] (resized p payload p.eob p.eov (time_in p.body) w few w.time) (All-nil W)
      ]

  kept-within : (n first : ℕ) (p : Packet) → W p →
      All W (resampled p (kept_samples n item first (payload_in p.body) (samples_in item p)))
  kept-within n first p w =
      resampled-within p (kept_samples n item first (payload_in p.body) (samples_in item p)) w
      (kept-pieces n item first (payload_in p.body) some)

  no_time : (k : ℕ) (time : Option ℕ) → (IsSome time → IsTrue timed) → IsSome (cond (nat_eq k 0) time None) → IsTrue timed
  no_time k time at =
      elim (nat_eq k 0) as (λ b. IsSome (cond b time None) → IsTrue timed) [ true ↦ at | false ↦ λ h. absurd (let z : is_some {T = ℕ} None ≡ true = h in cc) ]

  part-within : (n : ℕ) (p : Packet) (k : ℕ) → W p → k < n → W (repeated_part n item p k)
  part-within n p k w turn =
      resized p _ _ _ _ w (repeated-pieces n item (payload_in p.body) k some turn) (no_time k (time_in p.body) w.time)

  repeated-within : (n : ℕ) (p : Packet) → W p → All W (repeated_packet n item p)
  unfolding repeated_packet
  repeated-within n p w =
      elim (samples_in item p == 0)
      as (λ b. All W (cond b (p ∷ []) (map (repeated_part n item p) (range_with_len 0 n)))) [
        | true ↦ All-cons W p [] w (All-nil W)
        | false ↦ All-map W (repeated_part n item p) (range_with_len 0 n) (λ k d h.
            let turn : k < n = omega (arith, length-range_with_len 0 n) in
            subst (λ j. W (repeated_part n item p j)) (sym (get_or-range_with_len 0 n k d turn)) (part-within n p (0 + k) w (omega arith)))
      ]

  flat-within : {X : Type 0} (f : X → List Packet) (xs : List X) → ((x : X) → All W (f x)) → All W (flat_map f xs)
  flat-within f [] each = All-nil W
  flat-within f (x ∷ xs) each = All-append W (f x) (flat_map f xs) (each x) (flat-within f xs each)

  replayed-within : (n : ℕ) (group : List Packet) → All W group → All W (replayed_group n group)
  unfolding replayed_group
  replayed-within n group all = flat-within (λ _. group) (range_with_len 0 n) (λ _. all)

  none : All W []
  none = All-nil W

  one : (p : Packet) → W p → All W (p ∷ [])
  one p w = All-cons W p [] w (All-nil W)

  closed-within : (n : ℕ) (group : List Packet) (p : Packet) → All W group → W p →
      All W (cond (closes group p) (replayed_group n (group ++ p ∷ [])) [])
  closed-within n group p all w =
      elim (closes group p)
      as (λ b. All W (cond b (replayed_group n (group ++ p ∷ [])) []))
      [ true ↦ replayed-within n (group ++ p ∷ []) (All-push W group p all w) | false ↦ none ]

  opened-within : (group : List Packet) (p : Packet) → All W group → W p → All W (cond (closes group p) [] (group ++ p ∷ []))
  opened-within group p all w =
      elim (closes group p) as (λ b. All W (cond b [] (group ++ p ∷ []))) [ true ↦ none | false ↦ All-push W group p all w ]

  switched-within : (b : Bool) (p : Packet) → W p → All W (cond b (p ∷ []) [])
  switched-within true p w = one p w
  switched-within false p w = none

  gives_by-within : (kind : BlockKind) (phase : ℕ) (group : List Packet) (port : ℕ) (p : Packet) → All W group → W p →
      All W (gives_by kind item phase group port p).first × All W (gives_by kind item phase group port p).second
      × All W (next_group kind group p)
  gives_by-within Tx phase group port p all w = (none, none, all)
  gives_by-within Rx phase group port p all w = (none, none, all)
  gives_by-within Fifo phase group port p all w = (one p w, none, all)
  gives_by-within Split phase group port p all w = (one p w, one p w, all)
  gives_by-within (Keep n) phase group port p all w = (kept-within n phase p w, none, all)
  gives_by-within (Repeat n) phase group port p all w = (repeated-within n p w, none, all)
  gives_by-within (Replay n) phase group port p all w = (closed-within n group p all w, none, opened-within group p all w)
  gives_by-within (Switch n) phase group port p all w = (switched-within (port == n) p w, none, all)
  gives_by-within Sink phase group port p all w = (none, none, all)

  kept_packets-within : (n first : ℕ) (ps : List Packet) → All W ps → All W (kept_packets n item first ps)
  unfolding kept_packets
  kept_packets-within n first [] all = none
  kept_packets-within n first (p ∷ ps) all =
      All-append W _ _ (kept-within n first p (All-head W p ps all)) (kept_packets-within n (first + samples_in item p) ps (All-tail W p ps all))

  repeats-within : (n : ℕ) (ps : List Packet) → All W ps → All W (flat_map (repeated_packet n item) ps)
  repeats-within n [] all = none
  repeats-within n (p ∷ ps) all =
      All-append W _ _ (repeated-within n p (All-head W p ps all)) (repeats-within n ps (All-tail W p ps all))

  replays-within : (n : ℕ) (group ps : List Packet) → All W group → All W ps → All W (flat_map (replayed_group n) (groups group ps))
  unfolding groups
  replays-within n group [] begun all = none
  replays-within n group (p ∷ ps) begun all =
      let w = All-head W p ps all in
      let rest = All-tail W p ps all in
      elim (closes group p)
      as (λ b. All W (flat_map (replayed_group n) (cond b ((group ++ p ∷ []) ∷ groups [] ps) (groups (group ++ p ∷ []) ps)))) [
        | true ↦ All-append W _ _ (replayed-within n (group ++ p ∷ []) (All-push W group p begun w)) (replays-within n [] ps none rest)
        | false ↦ replays-within n (group ++ p ∷ []) ps (All-push W group p begun w) rest
      ]

  block_of-within : (kind : BlockKind) (fed : Lists) → All W fed.first → All W fed.second →
      All W (block_of kind item fed).first × All W (block_of kind item fed).second
  unfolding block_of
  block_of-within Tx fed one two = (none, none)
  block_of-within Rx fed one two = (none, none)
  block_of-within Fifo fed one two = (one, none)
  block_of-within Split fed one two = (one, one)
  block_of-within (Keep n) fed one two = (kept_packets-within n 0 fed.first one, none)
  block_of-within (Repeat n) fed one two = (repeats-within n fed.first one, none)
  block_of-within (Replay n) fed one two = (replays-within n [] fed.first none one, none)
  block_of-within (Switch n) fed one two =
      (elim (n == 0) as (λ b. All W (cond b fed.first fed.second)) [ true ↦ one | false ↦ two ], none)
  block_of-within Sink fed one two = (none, none)

pub fed_bounds_given : FedBoundsGiven
unfolding gives after_feed
fed_bounds_given most timed kept port p fits some all w =
    let r = gives_by-within kept.item most timed some kept.kind kept.phase kept.group port p all w in
    record { first = r.0; second = r.1; group = r.2 }

pub all_fed_bound_given : AllFedBoundGiven
all_fed_bound_given most timed kind item fed fits some one two = block_of-within item most timed some kind fed one two
