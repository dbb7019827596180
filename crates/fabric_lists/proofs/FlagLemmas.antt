-- The flags of streams: where they stand, and that they stay what the streams tell once what is so of one is set.
use Rattle.std.proofs.Common.{◌≡◌, ℕ, zero, suc, ◌+◌, ◌*◌, ◌<◌, Bool, false, List, [], ◌∷◌, ◌++◌, length, refl, sym, ◌∙◌, ap, get_or, set, arith}
use Rattle.std.specs.Prelude.{map, replicate}
use Rattle.std.specs.List.{flat_map}
use Rattle.std.proofs.Math.Seq.{map-set_same}
use Rattle.std.proofs.lemmas.List.{length-map, map-set}
use Rattle.chdr_words.specs.declared.command.CmdOp.TheVariants.{Init, Ping, Resync}
use Rattle.stream_endpoint.specs.declared.state.OutState.TheVariants.{Halted}
use Rattle.net_machine.specs.Plans.{no_stream}
use Rattle.net_present.specs.Kept.{idle_now}
use Rattle.fabric_parts.specs.Streams.{StreamSeen}
use Rattle.fabric_lists.specs.StreamFlags.{HasStream, could_order, flags_of, is_owing, is_sending, noted, orders_in}
use Rattle.fabric_lists.specs.declared.stream_flags.StreamFlags.{StreamFlags}
use Rattle.fabric_lists.proofs.FilledLemmas.{filled, filled_none}

-- three flags for each stream
pub orders_count : (parts : List StreamSeen) → length (flat_map orders_in parts) ≡ 3 * length parts
orders_count [] = refl
orders_count (p ∷ ps) =
    let rest : length (flat_map orders_in ps) ≡ 3 * length ps = orders_count ps in
    let here : length (flat_map orders_in (p ∷ ps)) ≡ suc (suc (suc (length (flat_map orders_in ps)))) = refl in
    let more : length (p ∷ ps) ≡ suc (length ps) = refl in
    omega arith

-- these three flags, from place i on
abbrev set_three : List Bool → ℕ → ℕ → ℕ → Bool → Bool → Bool → List Bool
set_three flags i j k a b c = set (set (set flags i a) j b) k c

orders_set : (parts : List StreamSeen) (s : ℕ) (new : StreamSeen)
    → set_three (flat_map orders_in parts) (3 * s) (3 * s + 1) (3 * s + 2) (could_order Init new) (could_order Ping new) (could_order Resync new)
    ≡ flat_map orders_in (set parts s new)
orders_set [] s new = refl
orders_set (p ∷ ps) zero new = refl
orders_set (p ∷ ps) (suc s) new =
    let flags = flat_map orders_in (p ∷ ps) in
    let a = could_order Init new in
    let b = could_order Ping new in
    let c = could_order Resync new in
    let first : 3 * suc s ≡ suc (suc (suc (3 * s))) = omega arith in
    let second : 3 * suc s + 1 ≡ suc (suc (suc (3 * s + 1))) = omega arith in
    let third : 3 * suc s + 2 ≡ suc (suc (suc (3 * s + 2))) = omega arith in
    ap (λ i. set_three flags i (3 * suc s + 1) (3 * suc s + 2) a b c) first
    ∙ ap (λ j. set_three flags (suc (suc (suc (3 * s)))) j (3 * suc s + 2) a b c) second
    ∙ ap (λ k. set_three flags (suc (suc (suc (3 * s)))) (suc (suc (suc (3 * s + 1)))) k a b c) third
    ∙ ap (λ rest. could_order Init p ∷ could_order Ping p ∷ could_order Resync p ∷ rest) (orders_set ps s new)

orders_kept : (parts : List StreamSeen) (s : ℕ) (old new : StreamSeen) → old ≡ get_or parts s old → orders_in new ≡ orders_in old
    → flat_map orders_in (set parts s new) ≡ flat_map orders_in parts
orders_kept [] s old new here same = refl
orders_kept (p ∷ ps) zero old new here same = ap (λ bs. bs ++ flat_map orders_in ps) (same ∙ ap orders_in here)
orders_kept (p ∷ ps) (suc s) old new here same = ap (λ bs. orders_in p ++ bs) (orders_kept ps s old new here same)

-- a stream that is there has its flags
pub has_stream : (parts : List StreamSeen) (flags : StreamFlags) (s : ℕ) → flags ≡ flags_of parts → s < length parts → HasStream flags s
has_stream parts flags s is there =
    let sending : length flags.sending ≡ length parts = ap (λ (f : StreamFlags). length f.sending) is ∙ length-map parts is_sending in
    let owing : length flags.owing ≡ length parts = ap (λ (f : StreamFlags). length f.owing) is ∙ length-map parts is_owing in
    let ordering : length flags.ordering ≡ 3 * length parts = ap (λ (f : StreamFlags). length f.ordering) is ∙ orders_count parts in
    record { sending = omega arith; owing = omega arith; ordering = omega arith }

-- once a stream was written and what is so of it is set
pub flagged : (parts : List StreamSeen) (flags : StreamFlags) (s : ℕ) (new : StreamSeen) → flags ≡ flags_of parts
    → noted s new flags ≡ flags_of (set parts s new)
flagged parts flags s new is =
    ap (noted s new) is
    ∙ ap (λ (bs : List Bool). record (noted s new (flags_of parts)) { sending = bs }) (sym (map-set is_sending parts s new))
    ∙ ap (λ (bs : List Bool). record { sending = map is_sending (set parts s new); owing = bs; ordering = (noted s new (flags_of parts)).ordering }) (sym (map-set is_owing parts s new))
    ∙ ap (λ (bs : List Bool). record { sending = map is_sending (set parts s new); owing = map is_owing (set parts s new); ordering = bs }) (orders_set parts s new)

-- a stream that was written, of which the flags are as before
pub flags_kept : (parts : List StreamSeen) (flags : StreamFlags) (s : ℕ) (old new : StreamSeen) → flags ≡ flags_of parts
    → old ≡ get_or parts s old → is_sending new ≡ is_sending old → is_owing new ≡ is_owing old → orders_in new ≡ orders_in old
    → flags ≡ flags_of (set parts s new)
flags_kept parts flags s old new is here sending owing ordering =
    is
    ∙ ap (λ (bs : List Bool). record (flags_of parts) { sending = bs }) (sym (map-set_same is_sending parts s new old (sending ∙ ap is_sending here)))
    ∙ ap (λ (bs : List Bool). record { sending = map is_sending (set parts s new); owing = bs; ordering = flat_map orders_in parts }) (sym (map-set_same is_owing parts s new old (owing ∙ ap is_owing here)))
    ∙ ap (λ (bs : List Bool). record { sending = map is_sending (set parts s new); owing = map is_owing (set parts s new); ordering = bs }) (sym (orders_kept parts s old new here ordering))

-- a stream of which no flag is set
abbrev pub silent : StreamSeen
silent = record { plan = no_stream; is_tx = false; now = record idle_now { sender = record idle_now.sender { state = Halted } } }

orders_none : (parts : List StreamSeen) → replicate (3 * length parts) false ≡ flat_map orders_in (filled parts 0 silent)
orders_none [] = refl
orders_none (p ∷ ps) =
    let more : 3 * length (p ∷ ps) ≡ suc (suc (suc (3 * length ps))) = omega arith in
    ap (λ n. replicate n false) more ∙ ap (λ bs. false ∷ false ∷ false ∷ bs) (orders_none ps)

-- no flag is set at first
pub none_flagged : (parts : List StreamSeen) (sending owing ordering : List Bool) → sending ≡ replicate (length parts) false
    → owing ≡ replicate (length parts) false → ordering ≡ replicate (3 * length parts) false
    → record { sending = sending; owing = owing; ordering = ordering } ≡ flags_of (filled parts 0 silent)
none_flagged parts sending owing ordering first second third =
    let quiet = filled parts 0 silent in
    ap (λ (bs : List Bool). record { sending = bs; owing = owing; ordering = ordering }) (first ∙ filled_none is_sending parts silent refl)
    ∙ ap (λ (bs : List Bool). record { sending = map is_sending quiet; owing = bs; ordering = ordering }) (second ∙ filled_none is_owing parts silent refl)
    ∙ ap (λ (bs : List Bool). record { sending = map is_sending quiet; owing = map is_owing quiet; ordering = bs }) (third ∙ orders_none parts)
