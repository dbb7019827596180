-- The packets of pieces are those of the whole.
use Rattle.std.proofs.Common.{inl, Bool, ◌≡◌, ℕ, zero, suc, ◌+◌, ◌-◌, ◌<◌, ◌≤◌, List, [], ◌∷◌, ◌++◌, length, drop, Option, None, Some, Result, Ok, Err, refl, sym, ap, ◌∙◌, append_assoc, arith}
use Rattle.std.proofs.lemmas.List.{append-nil, nil_from_length, length-drop, length-append, drop-append-le}
use Rattle.chdr_packets.specs.Grammar.{is_plain}
use Rattle.chdr_packets.specs.Reading.{packet_read}
use Rattle.chdr_packets.specs.declared.fault.PacketFault.{PacketFault}
use Rattle.chdr_packets.specs.declared.packet.Packet.{Packet}
use Rattle.chdr_packets.proofs.Laws.{read_within, read_stands, fault_stands, none_exactly}
use Rattle.chdr_stream.specs.declared.placed.Placed.{Placed}
use Rattle.chdr_stream.specs.Capture.{Reason, reason_of, truncated, Capture, behind, part_at, capture_from, capture_of, Decoded}

abbrev pub found : Packet → ℕ → Result (Option (Packet × ℕ)) PacketFault
found p n = Ok (Some (p, n))

-- of no bytes nothing is read
pub nothing_read : (fault : PacketFault) → packet_read [] ≡ Err fault → ⊥
nothing_read fault e =
    let none : packet_read [] ≡ Ok None = (none_exactly []).1 (inl (omega arith)) in
    apart (sym none ∙ e)
  where
    apart : ◌≡◌ {A = Result (Option (Packet × ℕ)) PacketFault} (Ok None) (Err fault) → ⊥
    apart e = cc

abbrev pub with_items : List Placed → Option (ℕ × Reason) → Capture
with_items items fault = record { items = items; fault = fault }

-- a packet's other bytes are passed over
pub capture-skip : (skip at : ℕ) (b : List ℕ) → skip ≤ length b → capture_from skip at b ≡ capture_from 0 (at + skip) (drop skip b)
unfolding capture_from
capture-skip zero at [] le = refl
capture-skip zero at (x ∷ b) le = let e : at + 0 ≡ at = omega arith in ap (λ (k : ℕ). capture_from 0 k (x ∷ b)) (sym e)
capture-skip (suc skip) at [] le = absurd (omega arith)
capture-skip (suc skip) at (x ∷ b) le =
    let e : at + 1 + skip ≡ at + suc skip = omega arith in
    capture-skip skip (at + 1) b (omega arith) ∙ ap (λ (k : ℕ). capture_from 0 k (drop skip b)) e

-- what stands at a place is what reading finds there
pub capture-part : (at : ℕ) (b : List ℕ) (p : Packet) (n : ℕ) → packet_read b ≡ found p n
    → capture_from 0 at b ≡ behind (record { at = at; canonical = is_plain b; packet = p } ∷ []) (capture_from 0 (at + n) (drop n b))
unfolding capture_from
capture-part at [] p n e = let t = read_within [] p n e in absurd (omega (arith, t.0, t.1))
capture-part at (x ∷ b) p zero e = let t = read_within (x ∷ b) p zero e in absurd (omega (arith, t.1))
capture-part at (x ∷ b) p (suc n) e =
    let t = read_within (x ∷ b) p (suc n) e in
    let le : n ≤ length b = omega (arith, t.0) in
    let at_is : at + 1 + n ≡ at + suc n = omega arith in
    let n_is : suc n - 1 ≡ n = omega arith in
    ap (λ (r : Result (Option (Packet × ℕ)) PacketFault). part_at at (x ∷ b) r (λ skip. capture_from skip (at + 1) b)) e
    ∙ ap (λ (k : ℕ). behind (record { at = at; canonical = is_plain (x ∷ b); packet = p } ∷ []) (capture_from k (at + 1) b)) n_is
    ∙ ap (behind (record { at = at; canonical = is_plain (x ∷ b); packet = p } ∷ [])) (capture-skip n (at + 1) b le ∙ ap (λ (k : ℕ). capture_from 0 k (drop n b)) at_is)

-- ---- faults

abbrev pub marked : ℕ → Bool → Packet → Placed
marked at canonical p = record { at = at; canonical = canonical; packet = p }

pub capture-bad : (at : ℕ) (b : List ℕ) (fault : PacketFault) → packet_read b ≡ Err fault → capture_from 0 at b ≡ with_items [] (Some (at, reason_of fault))
unfolding capture_from
capture-bad at [] fault e = absurd (nothing_read fault e)
capture-bad at (x ∷ b) fault e = ap (λ (r : Result (Option (Packet × ℕ)) PacketFault). part_at at (x ∷ b) r (λ skip. capture_from skip (at + 1) b)) e

pub capture-cut : (at : ℕ) (b : List ℕ) → packet_read b ≡ Ok None → 0 < length b → capture_from 0 at b ≡ with_items [] (Some (at, truncated))
unfolding capture_from
capture-cut at [] e some = absurd (omega arith)
capture-cut at (x ∷ b) e some = ap (λ (r : Result (Option (Packet × ℕ)) PacketFault). part_at at (x ∷ b) r (λ skip. capture_from skip (at + 1) b)) e

-- ---- the law of pieces

abbrev placed : ℕ → List ℕ → Packet → Placed
placed at b p = record { at = at; canonical = is_plain b; packet = p }

behind-behind : (xs ys : List Placed) (c : Capture) → behind xs (behind ys c) ≡ behind (xs ++ ys) c
behind-behind xs ys c = ap (λ (items : List Placed). with_items items c.fault) (sym (append_assoc xs ys c.items))

pub decoded_none : Decoded [] [] 0 []
decoded_none = record { place = refl; goes_on = λ more. refl }

pub decoded_fed : (fed : List ℕ) (done : List Placed) (at : ℕ) (kept piece : List ℕ) → Decoded fed done at kept → Decoded (fed ++ piece) done at (kept ++ piece)
decoded_fed fed done at kept piece d = record {
  place = omega (arith, d.place, length-append fed piece, length-append kept piece);
  goes_on = λ more. ap capture_of (append_assoc fed piece more) ∙ d.goes_on (piece ++ more) ∙ ap (λ (b : List ℕ). behind done (capture_from 0 at b)) (sym (append_assoc kept piece more));
}

pub decoded_next : (fed : List ℕ) (done : List Placed) (at : ℕ) (kept : List ℕ) (p : Packet) (n : ℕ) → packet_read kept ≡ found p n → Decoded fed done at kept
    → Decoded fed (done ++ placed at kept p ∷ []) (at + n) (drop n kept)
decoded_next fed done at kept p n e d =
    let t = read_within kept p n e in
    record {
      place = omega (arith, d.place, length-drop n kept, t.0);
      goes_on = λ more.
          let whole = (read_stands kept more p n e).0 in
          let same : is_plain (kept ++ more) ≡ is_plain kept = (read_stands kept more p n e).1 in
          d.goes_on more ∙ ap (behind done) (capture-part at (kept ++ more) p n whole)
          ∙ ap (λ (x : Placed). behind done (behind (x ∷ []) (capture_from 0 (at + n) (drop n (kept ++ more))))) (ap (λ (c : Bool). marked at c p) same)
          ∙ behind-behind done (placed at kept p ∷ []) (capture_from 0 (at + n) (drop n (kept ++ more)))
          ∙ ap (λ (b : List ℕ). behind (done ++ placed at kept p ∷ []) (capture_from 0 (at + n) b)) (drop-append-le n kept more t.0);
    }

pub decoded_bad : (fed : List ℕ) (done : List Placed) (at : ℕ) (kept more : List ℕ) (fault : PacketFault) → packet_read kept ≡ Err fault → Decoded fed done at kept
    → capture_of (fed ++ more) ≡ with_items done (Some (at, reason_of fault))
decoded_bad fed done at kept more fault e d =
    d.goes_on more ∙ ap (behind done) (capture-bad at (kept ++ more) fault (fault_stands kept more fault e)) ∙ ap (λ (items : List Placed). with_items items (Some (at, reason_of fault))) (append-nil done)

pub decoded_cut : (fed : List ℕ) (done : List Placed) (at : ℕ) (kept : List ℕ) → packet_read kept ≡ Ok None → 0 < length kept → Decoded fed done at kept
    → capture_of fed ≡ with_items done (Some (at, truncated))
decoded_cut fed done at kept e some d =
    ap capture_of (sym (append-nil fed)) ∙ d.goes_on [] ∙ ap (λ (b : List ℕ). behind done (capture_from 0 at b)) (append-nil kept)
    ∙ ap (behind done) (capture-cut at kept e some) ∙ ap (λ (items : List Placed). with_items items (Some (at, truncated))) (append-nil done)

pub decoded_whole : (fed : List ℕ) (done : List Placed) (at : ℕ) (kept : List ℕ) → length kept ≡ 0 → Decoded fed done at kept → capture_of fed ≡ with_items done None
unfolding capture_from
decoded_whole fed done at kept none d =
    ap capture_of (sym (append-nil fed)) ∙ d.goes_on [] ∙ ap (λ (b : List ℕ). behind done (capture_from 0 at b)) (append-nil kept ∙ nil_from_length kept none)
    ∙ ap (λ (items : List Placed). with_items items None) (append-nil done)
