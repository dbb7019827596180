-- A block stands for its history: one packet more gives what the definition has more.
use Rattle.std.proofs.Common.{◌≡◌, ◌+◌, ◌%◌, ◌<◌, ◌++◌, ◌∙◌, [], ◌∷◌, ℕ, zero, suc, List, true, false, cond, sym, ap, refl, append-nil, arith, length-append, zero-add, add-zero, nat_eq}
use Rattle.std.specs.List.{flat_map, sum_by}
use Rattle.std.proofs.lemmas.List.Concat.{flat_map-append}
use Rattle.std.proofs.lemmas.List.Sums.{sum_by-append, sum_by-cons}
use Rattle.chdr_packets.specs.declared.packet.Packet.{Packet}
use Rattle.block_library.specs.declared.kind.BlockKind.{BlockKind}
use Rattle.block_library.specs.declared.kind.BlockKind.TheVariants.{Tx, Rx, Fifo, Split, Keep, Repeat, Replay, Switch, Sink}
use Rattle.block_library.specs.Blocks.{Lists, Extends, FitsKind, inputs, samples_in, payload_in, kept_samples, kept_packets, resampled, repeated_packet, closes, groups, open_group, replayed_group, block_of, joined, alone}
use Rattle.block_library.specs.Memory.{Kept, kept_of, gives, after_feed, total, counted, phase_of, group_of, next_phase, next_group, lists, kept, StandsFor, GoesOn, HistoryGoesOn}
use Rattle.block_library.proofs.BlockLemmas.{mod_first, kept_packets-append, kept_samples-mod, groups-append, open_group-append}

pub same_lists : (a b c d : List Packet) → a ≡ c → b ≡ d → lists a b ≡ lists c d
same_lists a b c d e h = rw (e, h) refl

-- keep, one packet more
kept_packets-more : (n item : ℕ) (ps : List Packet) (p : Packet) →
    kept_packets n item 0 (ps ++ p ∷ []) ≡
    kept_packets n item 0 ps
    ++ resampled p (kept_samples n item (sum_by (samples_in item) ps % n) (payload_in p.body) (samples_in item p))
unfolding kept_packets
kept_packets-more n item ps p =
    kept_packets-append n item 0 ps (p ∷ [])
    ∙ ap (λ xs. kept_packets n item 0 ps ++ xs)
    (append-nil (resampled p (kept_samples n item (0 + sum_by (samples_in item) ps) (payload_in p.body) (samples_in item p)))
    ∙ ap (λ m. resampled p (kept_samples n item m (payload_in p.body) (samples_in item p))) (zero-add (sum_by (samples_in item) ps))
    ∙ ap (resampled p) (sym (kept_samples-mod n item (sum_by (samples_in item) ps) (payload_in p.body) (samples_in item p))))

-- replay, one packet more
replayed-last : (n : ℕ) (group : List Packet) (p : Packet) →
    flat_map (replayed_group n) (groups group (p ∷ [])) ≡
    cond (closes group p) (replayed_group n (group ++ p ∷ [])) []
unfolding groups
replayed-last n group p =
    elim (closes group p)
    as (λ b. flat_map (replayed_group n) (cond b ((group ++ p ∷ []) ∷ []) []) ≡
    cond b (replayed_group n (group ++ p ∷ [])) [])
    [ true ↦ append-nil (replayed_group n (group ++ p ∷ [])) | false ↦ refl ]

replayed-more : (n : ℕ) (ps : List Packet) (p : Packet) →
    flat_map (replayed_group n) (groups [] (ps ++ p ∷ [])) ≡
    flat_map (replayed_group n) (groups [] ps)
    ++ cond (closes (open_group [] ps) p) (replayed_group n (open_group [] ps ++ p ∷ [])) []
replayed-more n ps p =
    ap (flat_map (replayed_group n)) (groups-append [] ps (p ∷ []))
    ∙ flat_map-append (replayed_group n) (groups [] ps) (groups (open_group [] ps) (p ∷ []))
    ∙ ap (λ xs. flat_map (replayed_group n) (groups [] ps) ++ xs) (replayed-last n (open_group [] ps) p)

pub block_of-more : (kind : BlockKind) (item : ℕ) (fed : Lists) (port : ℕ) (p : Packet) → FitsKind kind → port < inputs kind →
    block_of kind item (joined fed (alone port p)) ≡ joined (block_of kind item fed) (gives (kept_of kind item fed) port p)
unfolding block_of gives kept_of
block_of-more Tx item fed port p f h = absurd (omega arith)
block_of-more Rx item fed zero p f h = refl
block_of-more Rx item fed (suc port) p f h = absurd (omega arith)
block_of-more Fifo item fed zero p f h = refl
block_of-more Fifo item fed (suc port) p f h = absurd (omega arith)
block_of-more Split item fed zero p f h = refl
block_of-more Split item fed (suc port) p f h = absurd (omega arith)
block_of-more (Keep n) item fed zero p f h = same_lists _ _ _ _ (kept_packets-more n item fed.first p) refl
block_of-more (Keep n) item fed (suc port) p f h = absurd (omega arith)
block_of-more (Repeat n) item fed zero p f h =
    same_lists _ _ _ _
    (flat_map-append (repeated_packet n item) fed.first (p ∷ [])
    ∙ ap (λ xs. flat_map (repeated_packet n item) fed.first ++ xs) (append-nil (repeated_packet n item p)))
    refl
block_of-more (Repeat n) item fed (suc port) p f h = absurd (omega arith)
block_of-more (Replay n) item fed zero p f h = same_lists _ _ _ _ (replayed-more n fed.first p) refl
block_of-more (Replay n) item fed (suc port) p f h = absurd (omega arith)
block_of-more (Switch zero) item fed zero p f h = refl
block_of-more (Switch zero) item fed (suc zero) p f h = refl
block_of-more (Switch zero) item fed (suc (suc port)) p f h = absurd (omega arith)
block_of-more (Switch (suc zero)) item fed zero p f h = refl
block_of-more (Switch (suc zero)) item fed (suc zero) p f h = refl
block_of-more (Switch (suc zero)) item fed (suc (suc port)) p f h = absurd (omega arith)
block_of-more (Switch (suc (suc n))) item fed port p f h = absurd (omega arith)
block_of-more Sink item fed zero p f h = refl
block_of-more Sink item fed (suc port) p f h = absurd (omega arith)

counted-more : (n k : ℕ) → counted (n + k) ≡ counted (counted n + k)
counted-more n k = omega arith

total-joined : (a b : Lists) → total (joined a b) ≡ total a + total b
total-joined a b = omega (arith, length-append a.first b.first, length-append a.second b.second)

total-alone : (port : ℕ) (p : Packet) → total (alone port p) ≡ 1
total-alone port p =
    elim (nat_eq port 0)
    as (λ b. total (cond b (lists (p ∷ []) []) (lists [] (p ∷ []))) ≡ 1)
    [ true ↦ refl | false ↦ refl ]

-- the first input goes on by the packet, or stays
phase_of-more : (kind : BlockKind) (item : ℕ) (fed : Lists) (port : ℕ) (p : Packet) → port < inputs kind →
    phase_of kind item (joined fed (alone port p)).first ≡ next_phase kind item (phase_of kind item fed.first) p
phase_of-more Tx item fed port p h = refl
phase_of-more Rx item fed port p h = refl
phase_of-more Fifo item fed port p h = refl
phase_of-more Split item fed port p h = refl
phase_of-more (Keep n) item fed zero p h =
    ap (λ m. m % n) (sum_by-append (samples_in item) fed.first (p ∷ []))
    ∙ ap (λ m. (sum_by (samples_in item) fed.first + m) % n) (sum_by-cons (samples_in item) p [] ∙ add-zero (samples_in item p))
    ∙ sym (mod_first (sum_by (samples_in item) fed.first) n (samples_in item p))
phase_of-more (Keep n) item fed (suc port) p h = absurd (omega arith)
phase_of-more (Repeat n) item fed port p h = refl
phase_of-more (Replay n) item fed port p h = refl
phase_of-more (Switch n) item fed port p h = refl
phase_of-more Sink item fed port p h = refl

open_group-more : (ps : List Packet) (p : Packet) →
    open_group [] (ps ++ p ∷ []) ≡ cond (closes (open_group [] ps) p) [] (open_group [] ps ++ p ∷ [])
unfolding open_group
open_group-more ps p = open_group-append [] ps (p ∷ [])

group_of-more : (kind : BlockKind) (fed : Lists) (port : ℕ) (p : Packet) → port < inputs kind →
    group_of kind (joined fed (alone port p)).first ≡ next_group kind (group_of kind fed.first) p
group_of-more Tx fed port p h = refl
group_of-more Rx fed port p h = refl
group_of-more Fifo fed port p h = refl
group_of-more Split fed port p h = refl
group_of-more (Keep n) fed port p h = refl
group_of-more (Repeat n) fed port p h = refl
group_of-more (Replay n) fed zero p h = open_group-more fed.first p
group_of-more (Replay n) fed (suc port) p h = absurd (omega arith)
group_of-more (Switch n) fed port p h = refl
group_of-more Sink fed port p h = refl

same_kept : (kind : BlockKind) (item a b : ℕ) (g h : List Packet) (c d e f : ℕ) → a ≡ b → g ≡ h → c ≡ d → e ≡ f →
    kept kind item a g c e ≡ kept kind item b h d f
same_kept kind item a b g h c d e f p q r s = rw (p, q, r, s) refl

pub kept_of-more : (kind : BlockKind) (item : ℕ) (fed : Lists) (port : ℕ) (p : Packet) → FitsKind kind → port < inputs kind →
    kept_of kind item (joined fed (alone port p)) ≡ after_feed (kept_of kind item fed) port p
unfolding kept_of after_feed
kept_of-more kind item fed port p f h =
    same_kept kind item _ _ _ _ _ _ _ _
    (phase_of-more kind item fed port p h)
    (group_of-more kind fed port p h)
    (ap counted (total-joined fed (alone port p) ∙ ap (λ k. total fed + k) (total-alone port p)) ∙ counted-more (total fed) 1)
    (ap (λ all. counted (total all)) (block_of-more kind item fed port p f h)
    ∙ ap counted (total-joined (block_of kind item fed) (gives (kept_of kind item fed) port p))
    ∙ counted-more (total (block_of kind item fed)) (total (gives (kept_of kind item fed) port p)))

pub goes_on : (old new : Kept) (fed : Lists) (port : ℕ) (p : Packet) (given : Lists) → FitsKind old.kind → port < inputs old.kind →
    new ≡ after_feed old port p → given ≡ gives old port p → StandsFor old fed → GoesOn old new fed port p given
unfolding after_feed
goes_on old new fed port p given f h n g stands =
    rw (n, g) record {
      stands = ap (λ k. after_feed k port p) stands ∙ sym (kept_of-more old.kind old.item fed port p f h);
      gives_all =
          ap (λ k. joined (block_of old.kind old.item fed) (gives k port p)) stands
          ∙ sym (block_of-more old.kind old.item fed port p f h);
    }

pub history_goes_on : HistoryGoesOn
history_goes_on kind item fed port p f h = (kept_of-more kind item fed port p f h, block_of-more kind item fed port p f h)

pub block_of-prefix : (kind : BlockKind) (item : ℕ) (fed more : Lists) →
    Extends (block_of kind item fed) (block_of kind item (joined fed more))
unfolding block_of
block_of-prefix Tx item fed more = (lists [] [], refl)
block_of-prefix Rx item fed more = (lists [] [], refl)
block_of-prefix Fifo item fed more = (lists more.first [], refl)
block_of-prefix Split item fed more = (lists more.first more.first, refl)
block_of-prefix (Keep n) item fed more = (
  lists (kept_packets n item (0 + sum_by (samples_in item) fed.first) more.first) [],
  same_lists _ _ _ _ (sym (kept_packets-append n item 0 fed.first more.first)) refl,
)
block_of-prefix (Repeat n) item fed more = (
  lists (flat_map (repeated_packet n item) more.first) [],
  same_lists _ _ _ _ (sym (flat_map-append (repeated_packet n item) fed.first more.first)) refl,
)
block_of-prefix (Replay n) item fed more = (
  lists (flat_map (replayed_group n) (groups (open_group [] fed.first) more.first)) [],
  same_lists _ _ _ _
      (sym
      (ap (flat_map (replayed_group n)) (groups-append [] fed.first more.first)
      ∙ flat_map-append (replayed_group n) (groups [] fed.first) (groups (open_group [] fed.first) more.first)))
      refl,
)
block_of-prefix (Switch n) item fed more =
    elim (nat_eq n 0)
    as (λ b. Extends (lists (cond b fed.first fed.second) [])
    (lists (cond b (fed.first ++ more.first) (fed.second ++ more.second)) []))
    [ true ↦ (lists more.first [], refl) | false ↦ (lists more.second [], refl) ]
block_of-prefix Sink item fed more = (lists [] [], refl)
