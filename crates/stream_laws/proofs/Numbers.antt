-- How each act keeps the parts of the invariant that speak of counts.
use Rattle.std.proofs.Common.{◌≡◌, ℕ, zero, suc, ◌+◌, ◌-◌, ◌<◌, ◌≤◌, ◌^◌, List, [], ◌∷◌, ◌++◌, length, drop, take, refl, ap, sym, ◌∙◌, arith, length-append, length-drop}
use Rattle.std.proofs.lemmas.List.Sums.{sum_by-append, sum_by-take-drop}
use Rattle.std.proofs.lemmas.List.{length-take-le}
use Rattle.stream_endpoint.specs.declared.count.Count.{Count}
use Rattle.stream_endpoint.specs.declared.flow.Flow.{Flow}
use Rattle.stream_endpoint.specs.Counts.{minus, minus_modulo, none, one_of, plus}
use Rattle.stream_endpoint.specs.Flow.{HasCredit}
use Rattle.chdr_words.specs.declared.command.CmdOp.{CmdOp}
use Rattle.stream_laws.specs.Machine.{Entry, Data, Command, Load, Told, count_of}
use Rattle.stream_laws.specs.Chains.{bytes_told, flying, packets_told}
use Rattle.stream_laws.specs.Invariant.{Balanced, Counted, Credited, Rising, Started}
use Rattle.stream_laws.proofs.Chains.{flying_bytes-append, flying_packets-append, rises_add, rises_from, rises_le, rises_to, rises_without}

bytes-append : {A : Type 0} (xs ys : List (Load A)) → (count_of (xs ++ ys)).bytes ≡ (count_of xs).bytes + (count_of ys).bytes
bytes-append {A} xs ys = sum_by-append (λ (load : Load A). load.wire) xs ys

drop_all : {A : Type 0} (xs : List (Load A)) (n : ℕ) → length xs ≤ n → (count_of (drop n xs)).bytes ≡ 0
drop_all [] zero le = refl
drop_all [] (suc n) le = refl
drop_all (x ∷ xs) zero le = absurd (omega arith)
drop_all (x ∷ xs) (suc n) le = drop_all xs n (omega arith)

drop_bytes-append : {A : Type 0} (xs ys : List (Load A)) (n : ℕ) → n ≤ length xs
    → (count_of (drop n (xs ++ ys))).bytes ≡ (count_of (drop n xs)).bytes + (count_of ys).bytes
drop_bytes-append xs ys zero le = bytes-append xs ys
drop_bytes-append [] ys (suc n) le = absurd (omega arith)
drop_bytes-append (x ∷ xs) ys (suc n) le = drop_bytes-append xs ys n (omega arith)

drop_nil : {A : Type 0} (n : ℕ) → drop {A = Load A} n [] ≡ []
drop_nil zero = refl
drop_nil (suc n) = refl

drop_more : {A : Type 0} (xs : List (Load A)) (n m : ℕ) → drop (n + m) xs ≡ drop m (drop n xs)
drop_more {A} xs zero m = let e : zero + m ≡ m = omega arith in rw e refl
drop_more {A} [] (suc n) m = drop_nil (suc n + m) ∙ sym (drop_nil m)
drop_more {A} (x ∷ xs) (suc n) m = let e : suc n + m ≡ suc (n + m) = omega arith in rw e (drop_more xs n m)

pub take_bytes : {A : Type 0} (xs : List (Load A)) (n m : ℕ)
    → (count_of (take m (drop n xs))).bytes + (count_of (drop (n + m) xs)).bytes ≡ (count_of (drop n xs)).bytes
take_bytes {A} xs n m = rw (drop_more xs n m) (sum_by-take-drop (λ (load : Load A). load.wire) (drop n xs) m)

pub counted_enter : {A : Type 0} (start : Count) (sent given : List (Load A)) (taken : ℕ) (total buffered : Count) (load : Load A)
    → Counted start sent given taken total buffered → Counted start (sent ++ load ∷ []) given taken (plus total (one_of load.wire)) buffered
counted_enter start sent given taken total buffered load h = omega (arith, length-append sent (load ∷ []), bytes-append sent (load ∷ []))

pub counted_keep : {A : Type 0} (start : Count) (sent given : List (Load A)) (taken : ℕ) (total buffered : Count) (load : Load A)
    → Counted start sent given taken total buffered → Counted start sent (given ++ load ∷ []) taken total (plus buffered (one_of load.wire))
counted_keep start sent given taken total buffered load h =
    omega (arith, length-append given (load ∷ []), drop_bytes-append given (load ∷ []) taken (omega arith))

pub counted_take : {A : Type 0} (start : Count) (sent given : List (Load A)) (taken : ℕ) (total buffered : Count) (n : ℕ)
    → Counted start sent given taken total buffered → taken + n ≤ length given
    → Counted start sent given (taken + n) total (minus buffered (count_of (take n (drop taken given))))
counted_take start sent given taken total buffered n h le =
    let p = length-drop taken given in
    let q = length-take-le n (drop taken given) (omega arith) in
    let b = take_bytes given taken n in
    omega arith

pub held_even : {A : Type 0} (start : Count) (sent given : List (Load A)) (taken : ℕ) (total buffered : Count)
    → Counted start sent given taken total buffered → buffered.packets ≡ 0 → buffered.bytes ≡ 0
held_even start sent given taken total buffered h e = omega (arith, drop_all given taken (omega arith))

pub balanced_enter : {A : Type 0} (total reached buffered missing : Count) (es : List (Entry A)) (place : ℕ) (load : Load A)
    → Balanced total reached buffered (flying es) missing → Balanced (plus total (one_of load.wire)) reached buffered (flying (es ++ Data place load ∷ [])) missing
balanced_enter total reached buffered missing es place load h =
    let p = flying_packets-append es (Data place load ∷ []) in
    let b = flying_bytes-append es (Data place load ∷ []) in
    record { packets = omega arith; bytes = omega arith; held_packets = h.held_packets; held_bytes = h.held_bytes; even = h.even }

pub balanced_order : {A : Type 0} (total reached buffered missing : Count) (es : List (Entry A)) (op : CmdOp) (told : Count)
    → Balanced total reached buffered (flying es) missing → Balanced total reached buffered (flying (es ++ Command op told ∷ [])) missing
balanced_order total reached buffered missing es op told h =
    let p = flying_packets-append es (Command op told ∷ []) in
    let b = flying_bytes-append es (Command op told ∷ []) in
    record { packets = omega arith; bytes = omega arith; held_packets = h.held_packets; held_bytes = h.held_bytes; even = h.even }

pub balanced_keep : {A : Type 0} (total reached buffered missing : Count) (es : List (Entry A)) (place : ℕ) (load : Load A) (rest : List (Entry A))
    → es ≡ Data place load ∷ rest → Balanced total reached buffered (flying es) missing
    → Balanced total (plus reached (one_of load.wire)) (plus buffered (one_of load.wire)) (flying rest) missing
balanced_keep total reached buffered missing es place load rest e h =
    let p = ap (λ fs. (flying fs).packets) e in let b = ap (λ fs. (flying fs).bytes) e in omega arith

-- a packet that breaks the receiver or is discarded
pub balanced_miss : {A : Type 0} (total reached buffered missing : Count) (es : List (Entry A)) (place : ℕ) (load : Load A) (rest : List (Entry A))
    → es ≡ Data place load ∷ rest → Balanced total reached buffered (flying es) missing
    → Balanced total reached buffered (flying rest) (plus missing (one_of load.wire))
balanced_miss total reached buffered missing es place load rest e h =
    let p = ap (λ fs. (flying fs).packets) e in let b = ap (λ fs. (flying fs).bytes) e in omega arith

pub balanced_obey : {A : Type 0} (total reached buffered missing : Count) (es : List (Entry A)) (op : CmdOp) (told : Count) (rest : List (Entry A))
    → es ≡ Command op told ∷ rest → Balanced total reached buffered (flying es) missing → Balanced total reached buffered (flying rest) missing
balanced_obey total reached buffered missing es op told rest e h =
    let p = ap (λ fs. (flying fs).packets) e in let b = ap (λ fs. (flying fs).bytes) e in omega arith

pub balanced_renew : {A : Type 0} (total reached buffered missing : Count) (es rest : List (Entry A))
    → rest ≡ [] → Balanced total reached buffered (flying es) missing → Balanced total total buffered (flying rest) none
balanced_renew total reached buffered missing es rest e h =
    let p = ap (λ fs. (flying fs).packets) e in let b = ap (λ fs. (flying fs).bytes) e in omega arith

pub balanced_take : (total reached buffered flight missing taken : Count)
    → Balanced total reached buffered flight missing → Balanced total reached (minus buffered taken) flight missing
balanced_take total reached buffered flight missing taken h = omega arith

pub balanced_lose : {A : Type 0} (total reached buffered missing : Count) (es before : List (Entry A)) (place : ℕ) (load : Load A) (behind : List (Entry A))
    → es ≡ before ++ Data place load ∷ behind → Balanced total reached buffered (flying es) missing
    → Balanced total reached buffered (flying (before ++ behind)) (plus missing (one_of load.wire))
balanced_lose total reached buffered missing es before place load behind e h =
    let p = ap (λ fs. (flying fs).packets) e ∙ flying_packets-append before (Data place load ∷ behind) in
    let b = ap (λ fs. (flying fs).bytes) e ∙ flying_bytes-append before (Data place load ∷ behind) in
    let q = flying_packets-append before behind in
    let c = flying_bytes-append before behind in
    omega arith

pub balanced_lose_command : {A : Type 0} (total reached buffered missing : Count) (es before : List (Entry A)) (op : CmdOp) (told : Count) (behind : List (Entry A))
    → es ≡ before ++ Command op told ∷ behind → Balanced total reached buffered (flying es) missing
    → Balanced total reached buffered (flying (before ++ behind)) missing
balanced_lose_command total reached buffered missing es before op told behind e h =
    let p = ap (λ fs. (flying fs).packets) e ∙ flying_packets-append before (Command op told ∷ behind) in
    let b = ap (λ fs. (flying fs).bytes) e ∙ flying_bytes-append before (Command op told ∷ behind) in
    let q = flying_packets-append before behind in
    let c = flying_bytes-append before behind in
    omega arith

pub credited_enter : (flow : Flow) (total outstanding : Count) (wire : ℕ) → HasCredit flow outstanding wire
    → Credited flow total outstanding → Credited flow (plus total (one_of wire)) (plus outstanding (one_of wire))
credited_enter flow total outstanding wire credit h = omega arith

-- a status brings the known counts forward
pub credited_hear : (flow : Flow) (total outstanding moved : Count) (s : Told) (rest : List Told)
    → Rising (minus total outstanding) moved (s ∷ rest) → Credited flow total outstanding → Credited flow total (minus total s.told)
credited_hear flow total outstanding moved s rest rising h =
    let p = rising.packets.0 in let b = rising.bytes.0 in omega arith

pub rising_enter : (flow : Flow) (total outstanding moved : Count) (back : List Told) (wire : ℕ) → Credited flow total outstanding
    → Rising (minus total outstanding) moved back → Rising (minus (plus total (one_of wire)) (plus outstanding (one_of wire))) moved back
rising_enter flow total outstanding moved back wire credit h = record {
  packets = rises_from packets_told _ _ back _ h.packets (omega arith);
  bytes = rises_from bytes_told _ _ back _ h.bytes (omega arith);
}

pub started_enter : (flow : Flow) (start total outstanding : Count) (wire : ℕ) → Credited flow total outstanding
    → Started start (minus total outstanding) → Started start (minus (plus total (one_of wire)) (plus outstanding (one_of wire)))
started_enter flow start total outstanding wire credit h = omega arith

pub started_hear : (start total outstanding moved : Count) (s : Told) (rest : List Told) → moved.packets ≤ total.packets → moved.bytes ≤ total.bytes
    → Rising (minus total outstanding) moved (s ∷ rest) → Started start (minus total outstanding) → Started start (minus total (minus total s.told))
started_hear start total outstanding moved s rest p b rising h =
    let q = rises_le packets_told _ rest _ rising.packets.1 in
    let c = rises_le bytes_told _ rest _ rising.bytes.1 in
    let lp = rising.packets.0 in
    let lb = rising.bytes.0 in
    omega arith

-- what was transferred never falls
pub rising_move : (known moved more : Count) (back : List Told) → moved.packets ≤ more.packets → moved.bytes ≤ more.bytes
    → Rising known moved back → Rising known more back
rising_move known moved more back p b h = record {
  packets = rises_to packets_told _ back _ _ h.packets p;
  bytes = rises_to bytes_told _ back _ _ h.bytes b;
}

pub rising_report : (known : Count) (back : List Told) (s : Told) → Rising known s.told back → Rising known s.told (back ++ s ∷ [])
rising_report known back s h = record {
  packets = rises_add packets_told _ back s h.packets;
  bytes = rises_add bytes_told _ back s h.bytes;
}

pub rising_hear : (total outstanding moved : Count) (s : Told) (rest : List Told) → moved.packets ≤ total.packets → moved.bytes ≤ total.bytes
    → Rising (minus total outstanding) moved (s ∷ rest) → Rising (minus total (minus total s.told)) moved rest
rising_hear total outstanding moved s rest p b h =
    let q = rises_le packets_told _ rest _ h.packets.1 in
    let c = rises_le bytes_told _ rest _ h.bytes.1 in
    record {
      packets = rises_from packets_told _ _ rest _ h.packets.1 (omega arith);
      bytes = rises_from bytes_told _ _ rest _ h.bytes.1 (omega arith);
    }

pub rising_lose : (known moved : Count) (before : List Told) (s : Told) (behind : List Told)
    → Rising known moved (before ++ s ∷ behind) → Rising known moved (before ++ behind)
rising_lose known moved before s behind h = record {
  packets = rises_without packets_told _ before s behind _ h.packets;
  bytes = rises_without bytes_told _ before s behind _ h.bytes;
}

-- a count in flight is read back from its spelling
pub packets_back : (a b : ℕ) → b ≤ a → a - b < 2 ^ 40 → minus_modulo (2 ^ 40) a b ≡ a - b
packets_back a b le few = omega arith

pub bytes_back : (a b : ℕ) → b ≤ a → a - b < 2 ^ 64 → minus_modulo (2 ^ 64) a b ≡ a - b
bytes_back a b le few = omega arith
