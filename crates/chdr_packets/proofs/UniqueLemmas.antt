-- A packet has one canonical spelling at most.
use Rattle.std.proofs.Common.{◌≡◌, ℕ, suc, ◌+◌, ◌*◌, ◌≤◌, ◌≢◌, Bool, true, false, eqb, List, [], ◌∷◌, ◌++◌, length, take, drop, Option, None, Some, refl, sym, ap, subst, ◌∙◌, arith}
use Rattle.std.specs.Prelude.{slice_range, ◌&&◌, ◌||◌}
use Rattle.std.specs.List.{list_all}
use Rattle.std.proofs.lemmas.Bool.{eqb-true, eqb-false}
use Rattle.std.proofs.lemmas.List.{take-append-drop}
use Rattle.chdr_words.specs.Field.{field, word_at, half_at, words_at, halves_at, halves_bytes}
use Rattle.chdr_words.specs.Header.{header_of}
use Rattle.chdr_words.specs.Wire.{time_bytes, wire_size_of}
use Rattle.chdr_words.specs.Status.{SpellsStatus, status_plain}
use Rattle.chdr_words.specs.Command.{SpellsCommand}
use Rattle.chdr_words.specs.Control.{SpellsControl, control_plain, control_size, told_time, told_count, time_bit}
use Rattle.chdr_words.specs.Management.{SpellsManagement, management_plain}
use Rattle.chdr_words.specs.declared.status.Status.{Status}
use Rattle.chdr_words.specs.declared.command.Command.{Command}
use Rattle.chdr_words.specs.declared.control.Control.{Control}
use Rattle.chdr_words.specs.declared.management.Management.{Management}
use Rattle.chdr_words.specs.Laws.{IsBytes as SmallBytes}
use Rattle.chdr_words.proofs.Laws.{each_at-cons, each_at-more, each_at-none, word_at-below}
use Rattle.chdr_packets.specs.declared.packet.Body.{Body}
use Rattle.chdr_packets.specs.declared.packet.Body.TheVariants as bodies
use Rattle.chdr_packets.specs.Grammar.{body_time, body_type, header_for, SpellsBody, payload_plain, payload_start}
use Rattle.chdr_packets.specs.Length.{length_of}
use Rattle.chdr_packets.specs.Laws.{OneCanon}
use Rattle.chdr_packets.proofs.GrammarLemmas.{small_slice}
use Rattle.chdr_packets.proofs.WritingLemmas.{and_parts, eight_times, length-slice, canon_plain, canon_length, control_size_is}
use Rattle.chdr_packets.proofs.LawLemmas.{small_bytes}
use Rattle.chdr_packets.proofs.CanonLemmas.{same_header, same_words, same_front, same_zeros, same_parts, half_at-below, halves_whole}

-- ---- statuses and commands

words_four : (u : List ℕ) → words_at u 0 4 ≡ word_at u 0 ∷ word_at u 8 ∷ word_at u 16 ∷ word_at u 24 ∷ []
words_four u = rw (each_at-cons word_at 8 u 0 3, each_at-cons word_at 8 u 8 2, each_at-cons word_at 8 u 16 1, each_at-cons word_at 8 u 24 0, each_at-none word_at 8 u 32) refl

words_two : (u : List ℕ) → words_at u 0 2 ≡ word_at u 0 ∷ word_at u 8 ∷ []
words_two u = rw (each_at-cons word_at 8 u 0 1, each_at-cons word_at 8 u 8 0, each_at-none word_at 8 u 16) refl

status_same : (status : Status) (u v : List ℕ) → SmallBytes u → SmallBytes v → SpellsStatus status u → SpellsStatus status v → status_plain u ≡ true → status_plain v ≡ true → u ≡ v
status_same status u v small small' s t plain plain' =
    let free = eqb-true _ _ plain in
    let free' = eqb-true _ _ plain' in
    let e0 : word_at u 0 ≡ word_at v 0 = omega (arith, s.cap_bytes, s.code, s.src, free, t.cap_bytes, t.code, t.src, free', word_at-below u 0 small, word_at-below v 0 small') in
    let e1 : word_at u 8 ≡ word_at v 8 = omega (arith, s.got_packets, s.cap_packets, t.got_packets, t.cap_packets, word_at-below u 8 small, word_at-below v 8 small') in
    let e2 : word_at u 16 ≡ word_at v 16 = s.got_bytes ∙ sym t.got_bytes in
    let e3 : word_at u 24 ≡ word_at v 24 = omega (arith, s.info, s.buffer, t.info, t.buffer, word_at-below u 24 small, word_at-below v 24 small') in
    same_words 4 u v small small' s.size t.size (words_four u ∙ rw (e0, e1, e2, e3) refl ∙ sym (words_four v))

command_same : (command : Command) (u v : List ℕ) → SmallBytes u → SmallBytes v → SpellsCommand command u → SpellsCommand command v → u ≡ v
command_same command u v small small' s t =
    let e0 : word_at u 0 ≡ word_at v 0 = omega (arith, s.packets, s.op_data, s.op, s.src, t.packets, t.op_data, t.op, t.src, word_at-below u 0 small, word_at-below v 0 small') in
    let e1 : word_at u 8 ≡ word_at v 8 = s.bytes_counted ∙ sym t.bytes_counted in
    same_words 2 u v small small' s.size t.size (words_two u ∙ rw (e0, e1) refl ∙ sym (words_two v))

-- ---- management

management_same : (m : Management) (u v : List ℕ) → SmallBytes u → SmallBytes v → SpellsManagement m u → SpellsManagement m v → management_plain u ≡ true → management_plain v ≡ true → u ≡ v
management_same m u v small small' s t plain plain' =
    let free = eqb-true _ _ plain in
    let free' = eqb-true _ _ plain' in
    let e0 : word_at u 0 ≡ word_at v 0 =
    omega (arith, s.version, s.width, s.count, s.src, free, t.version, t.width, t.count, t.src, free', word_at-below u 0 small, word_at-below v 0 small') in
    let front : take 8 u ≡ take 8 v = same_front None [] u v 8 refl s.head t.head small small' e0 tt tt (each_at-none word_at 8 u 8) (each_at-none word_at 8 v 8) in
    sym (take-append-drop 8 u) ∙ ap (λ (x : List ℕ). x ++ drop 8 u) front ∙ ap (λ (x : List ℕ). take 8 v ++ x) (s.hops ∙ sym t.hops) ∙ take-append-drop 8 v

-- ---- control

-- what a canonical control payload is
record IsControl (c : Control) (u : List ℕ) : Type 0 where
  pub size : length u ≡ wire_size_of (control_size (time_bytes c.time) (length c.words))
  pub head : field (word_at u 0) 63 48 ≡ 0
  pub op : field (half_at u (8 + time_bytes c.time)) 29 28 ≡ 0
  pub rest : (length u ≢ control_size (time_bytes c.time) (length c.words)) → half_at u (control_size (time_bytes c.time) (length c.words)) ≡ 0

or_second : (n m k : ℕ) → (eqb n m || eqb k 0) ≡ true → n ≢ m → k ≡ 0
or_second n m k e ne = cases (eqb n m) refl e
  where
    cases : (t : Bool) → eqb n m ≡ t → (t || eqb k 0) ≡ true → k ≡ 0
    cases true is e = absurd (ne (eqb-true _ _ is))
    cases false is e = eqb-true _ _ e

is_control : (c : Control) (u : List ℕ) → SpellsControl c u → control_plain u ≡ true → IsControl c u
is_control c u s plain =
    let told : told_time u ≡ time_bytes c.time = eight_times _ c.time s.has_time in
    let size : ℕ = control_size (told_time u) (told_count u) in
    let is_size : size ≡ control_size (time_bytes c.time) (length c.words) = rw (told, s.count) refl in
    let head : Bool = eqb (field (word_at u 0) 63 48) 0 in
    let op : Bool = eqb (field (half_at u (8 + told_time u)) 29 28) 0 in
    let rounded : Bool = eqb (length u) (wire_size_of size) in
    let rest : Bool = eqb (length u) size || eqb (half_at u size) 0 in
    let one = and_parts (head && op && rounded) rest plain in
    let two = and_parts (head && op) rounded one.0 in
    let three = and_parts head op two.0 in
    record {
      size = control_size_is u c s plain;
      head = eqb-true _ _ three.0;
      op = subst (λ (t : ℕ). field (half_at u (8 + t)) 29 28 ≡ 0) told (eqb-true _ _ three.1);
      rest = subst (λ (n : ℕ). (length u ≢ n) → half_at u n ≡ 0) is_size (or_second (length u) size (half_at u size) one.1);
    }

-- the operation, and the words behind it
control_halves : (c : Control) (u v : List ℕ) → half_at u (8 + time_bytes c.time) ≡ half_at v (8 + time_bytes c.time) → SpellsControl c u → SpellsControl c v
    → halves_at u (8 + time_bytes c.time) (suc (length c.words)) ≡ halves_at v (8 + time_bytes c.time) (suc (length c.words))
control_halves c u v op s t =
    let at : ℕ = 8 + time_bytes c.time in
    let next : at + 4 ≡ 12 + time_bytes c.time = omega arith in
    rw (each_at-cons half_at 4 u at (length c.words), each_at-cons half_at 4 v at (length c.words), op, next, s.words, t.words) refl

four_times : (time : Option ℕ) → time_bytes time ≡ 8 * time_bit time
four_times None = refl
four_times (Some t) = refl

control_rest_same : (c : Control) (u v : List ℕ) → SmallBytes u → SmallBytes v → SpellsControl c u → SpellsControl c v → IsControl c u → IsControl c v
    → half_at u (8 + time_bytes c.time) ≡ half_at v (8 + time_bytes c.time) → drop (8 + time_bytes c.time) u ≡ drop (8 + time_bytes c.time) v
control_rest_same c u v small small' s t is is' op = cases (eqb (length u) size) refl
  where
    size : ℕ
    size = control_size (time_bytes c.time) (length c.words)

    cases : (b : Bool) → eqb (length u) (control_size (time_bytes c.time) (length c.words)) ≡ b → drop (8 + time_bytes c.time) u ≡ drop (8 + time_bytes c.time) v
    cases true e =
        let at : ℕ = 8 + time_bytes c.time in
        let k : ℕ = suc (length c.words) in
        let len : length u ≡ at + 4 * k = omega (arith, eqb-true _ _ e) in
        halves_whole k u at small len ∙ ap halves_bytes (control_halves c u v op s t) ∙ sym (halves_whole k v at small' (is'.size ∙ sym is.size ∙ len))
    cases false e =
        let at : ℕ = 8 + time_bytes c.time in
        let n : ℕ = suc (length c.words) in
        let whole : ℕ = control_size (time_bytes c.time) (length c.words) in
        let place : at + 4 * n ≡ whole = omega arith in
        let other : length u ≢ whole = eqb-false _ _ e in
        let other' : length v ≢ whole = λ f. other (is.size ∙ sym is'.size ∙ f) in
        let len : length u ≡ at + 4 * (n + 1) = omega (arith, is.size, other, four_times c.time) in
        let last : half_at u (at + 4 * n) ≡ half_at v (at + 4 * n) = rw place (is.rest other ∙ sym (is'.rest other')) in
        let halves : halves_at u at (n + 1) ≡ halves_at v at (n + 1) =
        rw (each_at-more half_at 4 u at n, each_at-more half_at 4 v at n, control_halves c u v op s t, last) refl in
        halves_whole (n + 1) u at small len ∙ ap halves_bytes halves ∙ sym (halves_whole (n + 1) v at small' (is'.size ∙ sym is.size ∙ len))

control_same : (c : Control) (u v : List ℕ) → SmallBytes u → SmallBytes v → SpellsControl c u → SpellsControl c v → control_plain u ≡ true → control_plain v ≡ true → u ≡ v
control_same c u v small small' s t plain plain' =
    let is = is_control c u s plain in
    let is' = is_control c v t plain' in
    let at : ℕ = 8 + time_bytes c.time in
    let e0 : word_at u 0 ≡ word_at v 0 =
    omega (arith, is.head, s.src, s.ack, s.has_time, s.seq, s.count, s.src_port, s.dst_port, is'.head, t.src, t.ack, t.has_time, t.seq, t.count, t.src_port, t.dst_port, word_at-below u 0 small, word_at-below v 0 small') in
    let e1 : half_at u at ≡ half_at v at =
    omega (arith, is.op, s.status, s.op, s.enables, s.addr, is'.op, t.status, t.op, t.enables, t.addr, half_at-below u at small, half_at-below v at small') in
    let front : take at u ≡ take at v =
    same_front c.time [] u v at (omega arith) (omega (arith, is.size)) (omega (arith, is'.size)) small small' e0 s.time t.time (each_at-none word_at 8 u at) (each_at-none word_at 8 v at) in
    sym (take-append-drop at u) ∙ ap (λ (x : List ℕ). x ++ drop at u) front ∙ ap (λ (x : List ℕ). take at v ++ x) (control_rest_same c u v small small' s t is is' e1) ∙ take-append-drop at v

-- ---- the whole packet

payload_same : (body : Body) (u v : List ℕ) → SmallBytes u → SmallBytes v → SpellsBody body u → SpellsBody body v → payload_plain (body_type body) u ≡ true → payload_plain (body_type body) v ≡ true → u ≡ v
payload_same (bodies.Samples None bytes) u v small small' s t plain plain' = s ∙ sym t
payload_same (bodies.Samples (Some time) bytes) u v small small' s t plain plain' = s ∙ sym t
payload_same (bodies.Status status) u v small small' s t plain plain' = status_same status u v small small' s t plain plain'
payload_same (bodies.Command command) u v small small' s t plain plain' = command_same command u v small small' s t
payload_same (bodies.Control control) u v small small' s t plain plain' = control_same control u v small small' s t plain plain'
payload_same (bodies.Management m) u v small small' s t plain plain' = management_same m u v small small' s t plain plain'

pub one_canon : OneCanon
one_canon p a b bytes bytes' c d =
    let small = small_bytes a bytes in
    let small' = small_bytes b bytes' in
    let s = c.spells in
    let t = d.spells in
    let len : s.len ≡ length_of p = canon_length p a c in
    let len' : t.len ≡ s.len = canon_length p b d ∙ sym len in
    let size : length a ≡ wire_size_of s.len = s.size in
    let size' : length b ≡ wire_size_of s.len = t.size ∙ ap wire_size_of len' in
    let first : header_of (word_at a 0) ≡ header_of (word_at b 0) = s.first ∙ ap (λ (n : ℕ). header_for p n) (sym len') ∙ sym t.first in
    let word : word_at a 0 ≡ word_at b 0 = same_header _ _ (word_at-below a 0 small) (word_at-below b 0 small') first in
    let start : ℕ = payload_start p in
    let front : take start a ≡ take start b =
    same_front (body_time p.body) p.mdata a b start refl (omega (arith, s.within, size)) (omega (arith, s.within, size')) small small' word s.time t.time s.mdata t.mdata in
    let plain = canon_plain p a c in
    let plain' = subst (λ (n : ℕ). (payload_plain (body_type p.body) (slice_range b start n) ≡ true) × (list_all (λ byte. eqb byte 0) (slice_range b n (wire_size_of n)) ≡ true)) len' (canon_plain p b d) in
    let spelled = subst (λ (n : ℕ). SpellsBody p.body (slice_range b start n)) len' t.payload in
    let payload : slice_range a start s.len ≡ slice_range b start s.len =
    payload_same p.body _ _ (small_slice a start s.len small) (small_slice b start s.len small') s.payload spelled plain.0 plain'.0 in
    let wide : s.len ≤ wire_size_of s.len = omega arith in
    let long : length (slice_range a s.len (wire_size_of s.len)) ≡ length (slice_range b s.len (wire_size_of s.len)) =
    length-slice a s.len (wire_size_of s.len) wide (omega (arith, size)) ∙ sym (length-slice b s.len (wire_size_of s.len) wide (omega (arith, size'))) in
    same_parts a b start s.len (wire_size_of s.len) s.within wide size size' front payload (same_zeros _ _ plain.1 plain'.1 long)
