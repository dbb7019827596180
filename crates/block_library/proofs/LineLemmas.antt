-- A line counts its packets one by one.
use Rattle.std.proofs.Common.{◌≡◌, ◌+◌, ◌<◌, ℕ, List, [], ◌∷◌, ◌++◌, length, take, get_or, refl, sym, ◌∙◌, ap, arith, length-append, sum_by}
use Rattle.std.specs.Prelude.{Option, None, Some}
use Rattle.std.specs.Option.{option_or}
use Rattle.std.proofs.lemmas.List.{take_more}
use Rattle.std.proofs.lemmas.List.Sums.{sum_by_push}
use Rattle.chdr_packets.specs.declared.packet.Packet.{Packet}
use Rattle.block_library.specs.declared.line.Line.{Line}
use Rattle.block_library.specs.Blocks.{samples_in}
use Rattle.block_library.specs.Lines.{first_in, last_in, first_of, last_of, payload_of, line_of, line_with, empty_line, stands_still, LinesGrow}

or-none : {X : Type 0} (a : Option X) → option_or a None ≡ a
or-none None = refl
or-none (Some x) = refl

or-assoc : {X : Type 0} (a b c : Option X) → option_or a (option_or b c) ≡ option_or (option_or a b) c
or-assoc None b c = refl
or-assoc (Some x) b c = refl

first_of-push : (item : ℕ) (ps : List Packet) (p : Packet) →
    first_of item (ps ++ p ∷ []) ≡ option_or (first_of item ps) (first_in item (payload_of p))
unfolding first_of
first_of-push item [] p = or-none (first_in item (payload_of p))
first_of-push item (q ∷ ps) p =
    ap (λ o. option_or (first_in item (payload_of q)) o) (first_of-push item ps p)
    ∙ or-assoc (first_in item (payload_of q)) (first_of item ps) (first_in item (payload_of p))

last_of-push : (item : ℕ) (ps : List Packet) (p : Packet) →
    last_of item (ps ++ p ∷ []) ≡ option_or (last_in item (payload_of p)) (last_of item ps)
unfolding last_of
last_of-push item [] p = sym (or-none (last_in item (payload_of p)))
last_of-push item (q ∷ ps) p =
    ap (λ o. option_or o (last_in item (payload_of q))) (last_of-push item ps p)
    ∙ sym (or-assoc (last_in item (payload_of p)) (last_of item ps) (last_in item (payload_of q)))

pub line_of-nil : (block item : ℕ) → line_of block item [] ≡ empty_line block
unfolding first_of last_of
line_of-nil block item = refl

abbrev line : ℕ → ℕ → ℕ → Option ℕ → Option ℕ → Line
line block packets samples first last =
    record { block = block; packets = packets; samples = samples; first = first; last = last }

pub line_of-push : (block item : ℕ) (ps : List Packet) (p : Packet) →
    line_of block item (ps ++ p ∷ []) ≡ line_with item (line_of block item ps) p
line_of-push block item ps p =
    let count : stands_still (length (ps ++ p ∷ [])) ≡ stands_still (stands_still (length ps) + 1) =
    omega (arith, length-append ps (p ∷ [])) in
    let samples : stands_still (sum_by (samples_in item) (ps ++ p ∷ []))
    ≡ stands_still (stands_still (sum_by (samples_in item) ps) + samples_in item p) =
    omega (arith, sum_by_push (samples_in item) ps p) in
    ap (λ n. line block n (stands_still (sum_by (samples_in item) (ps ++ p ∷ []))) (first_of item (ps ++ p ∷ [])) (last_of item (ps ++ p ∷ []))) count
    ∙ ap (λ n. line block (stands_still (stands_still (length ps) + 1)) n (first_of item (ps ++ p ∷ [])) (last_of item (ps ++ p ∷ []))) samples
    ∙ ap (λ o. line block (stands_still (stands_still (length ps) + 1)) (stands_still (stands_still (sum_by (samples_in item) ps) + samples_in item p)) o (last_of item (ps ++ p ∷ []))) (first_of-push item ps p)
    ∙ ap (λ o. line block (stands_still (stands_still (length ps) + 1)) (stands_still (stands_still (sum_by (samples_in item) ps) + samples_in item p)) (option_or (first_of item ps) (first_in item (payload_of p))) o) (last_of-push item ps p)

-- one packet more of a list that is walked
pub line_of-more : (block item : ℕ) (ps : List Packet) (i : ℕ) (d : Packet) → i < length ps →
    line_of block item (take (i + 1) ps) ≡ line_with item (line_of block item (take i ps)) (get_or ps i d)
line_of-more block item ps i d h =
    ap (line_of block item) (take_more ps i d h) ∙ line_of-push block item (take i ps) (get_or ps i d)

pub lines_grow : LinesGrow
lines_grow = (line_of-nil, line_of-push)
