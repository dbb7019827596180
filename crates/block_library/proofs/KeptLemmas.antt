-- What a block keeps stays in its ranges.
use Rattle.std.proofs.Common.{◌≡◌, ◌+◌, ◌<◌, ◌⊎◌, ◌++◌, ◌||◌, [], ◌∷◌, ℕ, List, Bool, true, false, cond, refl, sym, ◌∙◌, ap, arith, length, length-append, eqb}
use Rattle.chdr_packets.specs.declared.packet.Packet.{Packet}
use Rattle.block_library.specs.declared.kind.BlockKind.{BlockKind}
use Rattle.block_library.specs.declared.kind.BlockKind.TheVariants.{Tx, Rx, Fifo, Split, Keep, Repeat, Replay, Switch, Sink}
use Rattle.block_library.specs.Blocks.{FitsKind, closes, open_group}
use Rattle.block_library.specs.Memory.{Kept, FitsKept, KeptStaysFit, phase_of, group_of, kept_of, lists, after_feed, next_phase, next_group}

first_phase : (kind : BlockKind) (item : ℕ) → FitsKind kind → phase_of kind item [] < 1024
first_phase Tx item f = omega arith
first_phase Rx item f = omega arith
first_phase Fifo item f = omega arith
first_phase Split item f = omega arith
first_phase (Keep n) item f = let low = f.0 in let high = f.1 in omega arith
first_phase (Repeat n) item f = omega arith
first_phase (Replay n) item f = omega arith
first_phase (Switch n) item f = omega arith
first_phase Sink item f = omega arith

first_group : (kind : BlockKind) → length (group_of kind []) < 64
unfolding open_group
first_group Tx = omega arith
first_group Rx = omega arith
first_group Fifo = omega arith
first_group Split = omega arith
first_group (Keep n) = omega arith
first_group (Repeat n) = omega arith
first_group (Replay n) = omega arith
first_group (Switch n) = omega arith
first_group Sink = omega arith

phase_stays : (kind : BlockKind) (item phase : ℕ) (p : Packet) → FitsKind kind → phase < 1024 → next_phase kind item phase p < 1024
phase_stays Tx item phase p f h = h
phase_stays Rx item phase p f h = h
phase_stays Fifo item phase p f h = h
phase_stays Split item phase p f h = h
phase_stays (Keep n) item phase p f h = let low = f.0 in let high = f.1 in omega arith
phase_stays (Repeat n) item phase p f h = h
phase_stays (Replay n) item phase p f h = h
phase_stays (Switch n) item phase p f h = h
phase_stays Sink item phase p f h = h

-- a group that isn't closed has room for one packet more
open_stays : (group : List Packet) (p : Packet) → length group < 64 → length (cond (closes group p) [] (group ++ p ∷ [])) < 64
open_stays group p h = by p.eob (eqb (length group + 1) 64) refl
  where
    by : (end full : Bool) → eqb (length group + 1) 64 ≡ full → length (cond (end || full) [] (group ++ p ∷ [])) < 64
    by true full e = omega arith
    by false true e = omega arith
    by false false e =
        let apart : length group + 1 ≡ 64 → ⊥ = λ same. let z : true ≡ false = sym (ap (λ n. eqb n 64) same) ∙ e in cc in
        let long = length-append group (p ∷ []) in
        omega arith

group_stays : (kind : BlockKind) (group : List Packet) (p : Packet) → length group < 64 → length (next_group kind group p) < 64
group_stays Tx group p h = h
group_stays Rx group p h = h
group_stays Fifo group p h = h
group_stays Split group p h = h
group_stays (Keep n) group p h = h
group_stays (Repeat n) group p h = h
group_stays (Replay n) group p h = open_stays group p h
group_stays (Switch n) group p h = h
group_stays Sink group p h = h

new_is_fit : (kind : BlockKind) (item : ℕ) → FitsKind kind → (item ≡ 4) ⊎ (item ≡ 8) → FitsKept (kept_of kind item (lists [] []))
unfolding kept_of
new_is_fit kind item f i = record { kind = f; item = i; phase = first_phase kind item f; group = first_group kind }

stays_fit : (kept : Kept) (port : ℕ) (p : Packet) → FitsKept kept → FitsKept (after_feed kept port p)
unfolding after_feed
stays_fit kept port p fit = record {
  kind = fit.kind;
  item = fit.item;
  phase = phase_stays kept.kind kept.item kept.phase p fit.kind fit.phase;
  group = group_stays kept.kind kept.group p fit.group;
}

pub kept_stays_fit : KeptStaysFit
kept_stays_fit = (new_is_fit, stays_fit)
