-- What a Tx's list has left, and the first of what is ready.
use Rattle.std.proofs.Common.{◌≡◌, ℕ, zero, suc, ◌+◌, ◌-◌, ◌*◌, ◌<◌, ◌≤◌, not, true, List, [], ◌∷◌, ◌++◌, length, drop, refl, sym, ap, ◌∙◌, subst, arith, ◌%◌, ◌^◌, inl, inr, append_assoc, drop-cons, length-append, length-drop, Option, Some, None, slice_get}
use Rattle.std.specs.Prelude.{option_map, is_none, is_some}
use Rattle.std.specs.Int.{bytes_low_first}
use Rattle.std.proofs.lemmas.List.{drop_all}
use Rattle.block_library.proofs.Laws.{length-produced, get_or-produced}
use Rattle.block_library.specs.Producer.{FitsPlan, packet_of, produced}
use Rattle.block_library.specs.Samples.{sample, samples_from}
use Rattle.block_library.specs.declared.plan.TxPlan.{TxPlan}
use Rattle.chdr_packets.specs.Length.{length_of}
use Rattle.chdr_packets.specs.declared.packet.Packet.{Packet}
use Rattle.chdr_words.specs.Wire.{time_bytes, wire_size_of}
use Rattle.net_machine.specs.Blocks.{has_packet}
use Rattle.fabric_parts.specs.Ready.{IsMaking, IsShort, SourceSeen, first_wire, most_offered, offered_by, unmade, wire_of_each}

length-sample : (i item number : ℕ) → length (bytes_low_first i item number) ≡ item
length-sample i zero number = refl
length-sample i (suc item) number = omega (arith, length-sample (suc i) item number)

length-samples_from : (item first count : ℕ) → length (samples_from item first count) ≡ count * item
length-samples_from item first zero = omega arith
length-samples_from item first (suc count) =
    omega (arith, length-append (sample item first) (samples_from item (first + 1) count), length-sample 0 item first, length-samples_from item (first + 1) count)

time_bytes-map : (f : ℕ → ℕ) (time : Option ℕ) → time_bytes (option_map f time) ≡ time_bytes time
time_bytes-map f None = refl
time_bytes-map f (Some t) = refl

-- the length of each packet that a Tx makes
length_of-each : (plan : TxPlan) (k : ℕ) → length_of (packet_of plan k) ≡ 8 + time_bytes plan.time + plan.spp * plan.item
unfolding packet_of
length_of-each plan k =
    omega (arith, length-samples_from plan.item (k * plan.spp) plan.spp, time_bytes-map (λ (first : ℕ). (first + k * plan.spp) % 2 ^ 64) plan.time)

time_bytes-most : (time : Option ℕ) → time_bytes time ≤ 8
time_bytes-most None = omega arith
time_bytes-most (Some t) = omega arith

pub each-small : (plan : TxPlan) → FitsPlan plan → 8 + time_bytes plan.time + plan.spp * plan.item ≤ 8192
each-small plan fits =
    let time = time_bytes-most plan.time in
    let low : plan.spp ≤ 1022 = fits.spp_high in
    elim fits.item as (λ _. 8 + time_bytes plan.time + plan.spp * plan.item ≤ 8192) [
      | inl e ↦ subst (λ (n : ℕ). 8 + time_bytes plan.time + plan.spp * n ≤ 8192) (sym e) (omega arith)
      | inr e ↦ subst (λ (n : ℕ). 8 + time_bytes plan.time + plan.spp * n ≤ 8192) (sym e) (omega arith)
    ]

-- the first packet that is left
left-first : (plan : TxPlan) (made : ℕ) → made < plan.packets →
    drop made (produced plan) ≡ packet_of plan made ∷ drop (made + 1) (produced plan)
left-first plan made h =
    let within : made < length (produced plan) = omega (arith, length-produced plan) in
    let first = packet_of plan made in
    let next : suc made ≡ made + 1 = omega arith in
    drop-cons (produced plan) made first within
    ∙ ap (λ (p : Packet). p ∷ drop (suc made) (produced plan)) (get_or-produced plan made first h)
    ∙ ap (λ (n : ℕ). first ∷ drop n (produced plan)) next

left-none : (plan : TxPlan) (made : ℕ) → plan.packets ≤ made → drop made (produced plan) ≡ []
left-none plan made h = drop_all made (produced plan) (omega (arith, length-produced plan))

pub length-left : (plan : TxPlan) (made : ℕ) → length (drop made (produced plan)) ≡ plan.packets - made
length-left plan made = omega (arith, length-drop made (produced plan), length-produced plan)

pub first-left : (plan : TxPlan) (made : ℕ) → made < plan.packets →
    first_wire (drop made (produced plan)) ≡ Some (wire_of_each plan)
first-left plan made h =
    rw (left-first plan made h) (ap (λ (n : ℕ). Some (wire_size_of n)) (length_of-each plan made))

pub none-left : (plan : TxPlan) (made : ℕ) → plan.packets ≤ made → first_wire (drop made (produced plan)) ≡ None
none-left plan made h = rw (left-none plan made h) refl

slice_get-behind : {X : Type 0} (xs ys : List X) → slice_get (xs ++ ys) (length xs) ≡ slice_get ys 0
slice_get-behind [] ys = refl
slice_get-behind (x ∷ xs) ys = slice_get-behind xs ys

first_of : {X : Type 0} (xs : List X) (x : X) → slice_get xs 0 ≡ Some x → xs ≡ x ∷ drop 1 xs
first_of [] x e = absurd cc
first_of (y ∷ ys) x e = cc

-- the packet that is offered next: it is the first that wasn't, and it is short
pub record IsNext (tx : Option TxPlan) (made : ℕ) (p : Packet) : Type 0 where
  pub making : IsMaking tx (made + 1)
  pub list : unmade tx made ≡ p ∷ unmade tx (made + 1)
  pub short : IsShort p

pub offer-next : (tx : Option TxPlan) (made : ℕ) (front : List Packet) (p : Packet) → is_some tx ≡ true → IsMaking tx made →
    slice_get (front ++ unmade tx made) (offered_by tx (length front)) ≡ Some p → IsNext tx made p
offer-next None made front p some making next = absurd cc
offer-next (Some plan) made front p some making next =
    let list = drop made (produced plan) in
    let here : slice_get list 0 ≡ Some p = sym (slice_get-behind front list) ∙ next in
    let first = first_of list p here in
    let count : length list ≡ suc (length (drop 1 list)) = ap length first in
    let within : made < plan.packets = omega (arith, length-left plan made) in
    let is = left-first plan made within in
    let same : packet_of plan made ≡ p = cc in
    record {
      making = (making.0, omega arith);
      list = is ∙ ap (λ (q : Packet). q ∷ drop (made + 1) (produced plan)) same;
      short = subst IsShort same (omega (arith, length_of-each plan made, each-small plan making.0));
    }

pub offer-view : (tx : Option TxPlan) (made : ℕ) (front new : List Packet) (p : Packet) → is_some tx ≡ true →
    new ≡ front ++ p ∷ [] → unmade tx made ≡ p ∷ unmade tx (made + 1) →
    ◌≡◌ {A = SourceSeen} (record { ready = new ++ unmade tx (made + 1); offered = offered_by tx (length new); is_tx = is_some tx })
    (record { ready = front ++ unmade tx made; offered = offered_by tx (length front) + 1; is_tx = is_some tx })
offer-view None made front new p some is list = absurd cc
offer-view (Some plan) made front new p some is list =
    let joined : (front ++ p ∷ []) ++ drop (made + 1) (produced plan) ≡ front ++ p ∷ drop (made + 1) (produced plan) =
    append_assoc front (p ∷ []) (drop (made + 1) (produced plan)) in
    let ready : new ++ drop (made + 1) (produced plan) ≡ front ++ drop made (produced plan) =
    ap (λ (l : List Packet). l ++ drop (made + 1) (produced plan)) is ∙ joined
    ∙ ap (λ (l : List Packet). front ++ l) (sym list) in
    let offered : length new ≡ length front + 1 = omega (arith, ap length is, length-append front (p ∷ [])) in
    cc

-- what has no first packet is empty
pub none-first : (list : List Packet) → is_none (first_wire list) ≡ not (has_packet list)
none-first [] = refl
none-first (p ∷ ps) = refl

pub ruleset packet_lemmas = (none-first)

-- the next packet of a Tx's list, behind what was offered
pub next-unoffered : (plan : TxPlan) (made : ℕ) (front : List Packet) → made < plan.packets →
    Some (packet_of plan made) ≡ slice_get (front ++ drop made (produced plan)) (length front)
next-unoffered plan made front h =
    ap (λ (l : List Packet). slice_get l 0) (sym (left-first plan made h)) ∙ sym (slice_get-behind front (drop made (produced plan)))

pub none-unoffered : (plan : TxPlan) (made : ℕ) (front : List Packet) → plan.packets ≤ made →
    None ≡ slice_get (front ++ drop made (produced plan)) (length front)
none-unoffered plan made front h =
    ap (λ (l : List Packet). slice_get l 0) (sym (left-none plan made h)) ∙ sym (slice_get-behind front (drop made (produced plan)))

-- with one offered packet more there are still few, and with one less
pub few-more : (tx : Option TxPlan) (front new : List Packet) (p : Packet) → is_some tx ≡ true → new ≡ front ++ p ∷ []
    → offered_by tx (length front) < most_offered → offered_by tx (length new) ≤ most_offered
few-more None front new p some is few = omega arith
few-more (Some plan) front new p some is few = omega (arith, few, ap (λ (ps : List Packet). length ps) is, length-append front (p ∷ []))

pub few-less : (tx : Option TxPlan) (front : List Packet) → offered_by tx (length front) ≤ most_offered
    → offered_by tx (length (drop 1 front)) ≤ most_offered
few-less None front few = omega arith
few-less (Some plan) front few = omega (arith, few, length-drop 1 front)
