-- The same bytes in other pieces give the same packets and answers.
use Rattle.std.proofs.Common.{Bool, true, false, cond, eqb, ◌≡◌, ℕ, length, Option, None, Some, Result, Ok, Err, refl, sym, ap, subst, ◌∙◌}
use Rattle.chdr_packets.specs.Laws.{IsBytes}
use Rattle.chdr_packets.specs.declared.fault.PacketFault.{PacketFault}
use Rattle.chdr_packets.specs.declared.packet.Packet.{Packet}
use Rattle.chdr_stream.specs.declared.placed.Placed.{Placed}
use Rattle.chdr_stream.specs.declared.placed.StreamFault.{StreamFault}
use Rattle.chdr_stream.specs.declared.placed.StreamFault.TheVariants.{Bad}
use Rattle.chdr_stream.specs.declared.placed.FinishFault.{FinishFault}
use Rattle.chdr_stream.specs.declared.placed.FinishFault.TheVariants as finishes
use Rattle.chdr_stream.specs.Capture.{Reason, truncated, Capture, capture_of}
use Rattle.chdr_stream.specs.Stream.{Stream, reading, answer_at, finish_at}
use Rattle.chdr_stream.specs.Calls.{decoder_of, given_by, FindsNone, IsDrained, stop_at}
use Rattle.chdr_stream.specs.Laws.{IsSameCut}
use Rattle.chdr_stream.proofs.StreamLemmas.{with_items}
use Rattle.chdr_stream.proofs.ReasonLemmas.{read_by, read-reason, IsOfReason}
use Rattle.chdr_stream.proofs.CutLemmas.{any_cut, of_reason}

abbrev told : ℕ → Result (Option (Packet × ℕ)) PacketFault → Result (Option Placed) StreamFault
told at (Ok found) = Ok None
told at (Err fault) = Err (Bad at fault)

abbrev answer_by : Option (ℕ × Reason) → Result (Option Placed) StreamFault
answer_by None = Ok None
answer_by (Some (at, reason)) = told at (read_by reason)

abbrev finish_by : Option (ℕ × Reason) → Result (Unit {0}) FinishFault
finish_by None = Ok tt
finish_by (Some (at, reason)) = Err (finishes.Truncated at)

-- what a drained stream answers is told by where it stops
drained_answer : (s : Stream) (r : Result (Option (Packet × ℕ)) PacketFault) → FindsNone r → IsOfReason r → answer_at s r ≡ answer_by (stop_at s r)
drained_answer s (Ok None) none known = cases (eqb (length s.kept) 0)
  where
    cases : (t : Bool) → ◌≡◌ {A = Result (Option Placed) StreamFault} (Ok None) (answer_by (cond t None (Some (s.at, truncated))))
    cases true = refl
    cases false = refl
drained_answer s (Ok (Some x)) none known = absurd none
drained_answer s (Err fault) none known = ap (told s.at) (sym (read-reason fault known))

drained_finish : (s : Stream) → finish_at s ≡ finish_by (stop_at s (Ok None))
drained_finish s = cases (eqb (length s.kept) 0)
  where
    cases : (t : Bool) → ◌≡◌ {A = Result (Unit {0}) FinishFault} (cond t (Ok tt) (Err (finishes.Truncated s.at))) (finish_by (cond t None (Some (s.at, truncated))))
    cases true = refl
    cases false = refl

none_too : (s : Stream) (r : Result (Option (Packet × ℕ)) PacketFault) → FindsNone r → answer_at s r ≡ Ok None → r ≡ Ok None
none_too s (Ok None) none e = refl
none_too s (Ok (Some x)) none e = absurd none
none_too s (Err fault) none e = absurd cc

ends : (a b : Stream) → reading a ≡ Ok None → IsDrained b → stop_at a (reading a) ≡ stop_at b (reading b) → answer_at a (reading a) ≡ answer_at b (reading b) → finish_at a ≡ finish_at b
ends a b none also stops answers =
    let none_b : reading b ≡ Ok None = none_too b (reading b) also (sym answers ∙ ap (answer_at a) none) in
    drained_finish a ∙ ap finish_by (ap (stop_at a) (sym none) ∙ stops ∙ ap (stop_at b) none_b) ∙ sym (drained_finish b)

pub same_cut : IsSameCut
same_cut calls others all same drained also =
    let a = decoder_of calls in
    let b = decoder_of others in
    let e : with_items (given_by calls) (stop_at a (reading a)) ≡ with_items (given_by others) (stop_at b (reading b)) =
    sym (any_cut calls all drained) ∙ ap capture_of same ∙ any_cut others (subst IsBytes same all) also in
    let stops : stop_at a (reading a) ≡ stop_at b (reading b) = ap (λ (c : Capture). c.fault) e in
    let answers : answer_at a (reading a) ≡ answer_at b (reading b) = drained_answer a (reading a) drained (of_reason calls all) ∙ ap answer_by stops ∙ sym (drained_answer b (reading b) also (of_reason others (subst IsBytes same all))) in
    record { packets = ap (λ (c : Capture). c.items) e; answers = answers; ends = λ none. ends a b none also stops answers }
