-- What a decoder shows of the bytes that follow, packet by packet.
use Rattle.std.proofs.Common.{◌≡◌, ℕ, ◌+◌, ◌*◌, ◌<◌, ◌≤◌, ◌^◌, Bool, true, false, cond, List, [], ◌∷◌, ◌++◌, length, Option, None, Some, Result, Ok, Err, refl, sym, ap, subst, ◌∙◌, append_assoc, arith}
use Rattle.std.proofs.lemmas.List.{append-nil, length-append}
use Rattle.std.proofs.lemmas.List.Sums.{sum_by-append, sum_by-cons}
use Rattle.std.proofs.lemmas.Grind.{flat_map-append}
use Rattle.chdr_packets.specs.Fits.{FitsPacket}
use Rattle.chdr_packets.specs.Length.{body_length}
use Rattle.chdr_packets.specs.declared.fault.PacketFault.{PacketFault}
use Rattle.chdr_packets.specs.declared.packet.Packet.{Packet}
use Rattle.chdr_packets.specs.declared.packet.Body.{Body}
use Rattle.chdr_packets.specs.declared.packet.Body.TheVariants as bodies
use Rattle.chdr_stream.specs.declared.placed.Placed.{Placed}
use Rattle.chdr_stream.specs.declared.placed.Passed.{Passed}
use Rattle.chdr_stream.specs.declared.placed.StreamFault.{StreamFault}
use Rattle.chdr_stream.specs.declared.placed.StreamFault.TheVariants.{Bad}
use Rattle.chdr_stream.specs.Capture.{Reason, reason_of, Capture, behind}
use Rattle.chdr_stream.specs.Stream.{Stream, reading, answer_at, after, past}
use Rattle.chdr_stream.specs.Calls.{answer_of, given}
use Rattle.chdr_stream.specs.Laws.{without_packet}
use Rattle.chdr_stream.specs.Rest.{rest_of}
use Rattle.chdr_stream.proofs.Laws.{shows_given, shows_fault, passes_bytes}
use Rattle.capture_tool.specs.declared.seen.Counts.{Counts}
use Rattle.capture_tool.specs.declared.seen.Fault.{Fault}
use Rattle.capture_tool.specs.Seen.{why_of, counts_of}
use Rattle.capture_tool.specs.Listing.{ops_of, line_of, lines_of}
use Rattle.capture_tool.specs.Follows.{IsWithin, Gave, Lists, CountsOn, IsAt, added, one_more}

abbrev pub capture : List Placed → Option (ℕ × Reason) → Capture
capture items fault = record { items = items; fault = fault }

abbrev pub gives : Placed → Result (Option Placed) StreamFault
gives x = Ok (Some x)

abbrev pub stands : ℕ → PacketFault → Result (Option Placed) StreamFault
stands at fault = Err (Bad at fault)

-- ---- the packets that a decoder gives

pub gave_none : (s : Stream) → Gave s s []
gave_none s = λ more. refl

gave_then : (old mid new : Stream) (items : List Placed) → Gave old mid items → new ≡ after mid (reading mid) → Gave old new (items ++ given (answer_of mid))
gave_then old mid new items g a = λ more.
    g more ∙ ap (behind items) (shows_given mid more ∙ ap (λ (s : Stream). behind (given (answer_of mid)) (rest_of s more)) (sym a))
    ∙ ap (λ (l : List Placed). capture l (rest_of new more).fault) (sym (append_assoc items (given (answer_of mid)) (rest_of new more).items))

gave_one : (old mid new : Stream) (items : List Placed) (x : Placed) → Gave old mid items → answer_of mid ≡ gives x → new ≡ after mid (reading mid) → Gave old new (items ++ x ∷ [])
gave_one old mid new items x g e a = subst (λ (r : Result (Option Placed) StreamFault). Gave old new (items ++ given r)) e (gave_then old mid new items g a)

gave_same : (old mid new : Stream) (items : List Placed) (r : Result (Option Placed) StreamFault) → given r ≡ [] → Gave old mid items → answer_of mid ≡ r → new ≡ after mid (reading mid) → Gave old new items
gave_same old mid new items r none g e a =
    subst (λ (l : List Placed). Gave old new l) (ap (λ (l : List Placed). items ++ l) (ap given e ∙ none) ∙ append-nil items) (gave_then old mid new items g a)

-- ---- how far it goes

record Moved (s : Stream) (r : Result (Option (Packet × ℕ)) PacketFault) : Type 0 where
  packet : Packet
  size : ℕ
  is : r ≡ Ok (Some (packet, size))

moved : (s : Stream) (r : Result (Option (Packet × ℕ)) PacketFault) (x : Placed) → answer_at s r ≡ gives x → Moved s r
moved s (Ok None) x e = absurd cc
moved s (Ok (Some y)) x e = record { packet = y.0; size = y.1; is = refl }
moved s (Err fault) x e = absurd cc

eight : (old new : Stream) (x : Placed) → answer_of old ≡ gives x → new ≡ after old (reading old) → old.at + 8 ≤ new.at
eight old new x e a =
    let m = moved old (reading old) x e in
    let new_is : new ≡ past old m.size = a ∙ ap (after old) m.is in
    omega (arith, (passes_bytes old m.packet m.size m.is).0, ap (λ (s : Stream). s.at) new_is)

-- a packet more is within the limit
pub within_one : (old new : Stream) (x : Placed) (packets : ℕ) → answer_of old ≡ gives x → new ≡ after old (reading old) → new.at + length new.kept ≡ old.at + length old.kept → IsWithin old packets 0
    → IsWithin new (packets + 1) 0
within_one old new x packets e a place w = let least = eight old new x e a in record { bytes = omega (arith, w.bytes, place); each = omega (arith, w.each, least) }

pub within_less : (d : Stream) (packets fewer : ℕ) → fewer ≤ packets → IsWithin d packets 0 → IsWithin d fewer 0
within_less d packets fewer le w = record { bytes = w.bytes; each = omega (arith, w.each, le) }

pub less : (old new : Stream) (x : Placed) → answer_of old ≡ gives x → new ≡ after old (reading old) → new.at + length new.kept ≡ old.at + length old.kept → length new.kept < length old.kept
less old new x e a place = omega (arith, eight old new x e a, place)

-- where it stays or stops, its place and bytes are the same
pub within_same : (old new : Stream) (packets : ℕ) → new.at ≡ old.at → new.at + length new.kept ≡ old.at + length old.kept → IsWithin old packets 0 → IsWithin new packets 0
within_same old new packets at place w = record { bytes = omega (arith, w.bytes, place); each = omega (arith, w.each, at) }

at_parts : (s : Stream) (r : Result (Option (Packet × ℕ)) PacketFault) (a : Result (Option Placed) StreamFault) → given a ≡ [] → answer_at s r ≡ a → (after s r).at ≡ s.at
at_parts s (Ok None) a none e = refl
at_parts s (Ok (Some y)) a none e = absurd (some (ap given e ∙ none))
  where
    some : {x : Placed} → x ∷ [] ≡ [] → ⊥
    some e = cc
at_parts s (Err fault) a none e = refl

pub at_same : (s new : Stream) (a : Result (Option Placed) StreamFault) → given a ≡ [] → answer_of s ≡ a → new ≡ after s (reading s) → new.at ≡ s.at
at_same s new a none e is = ap (λ (x : Stream). x.at) is ∙ at_parts s (reading s) a none e

-- ---- it gives no more

none_reads : (s : Stream) (r : Result (Option (Packet × ℕ)) PacketFault) → answer_at s r ≡ Ok None → r ≡ Ok None
none_reads s (Ok None) e = refl
none_reads s (Ok (Some y)) e = absurd cc
none_reads s (Err fault) e = absurd cc

pub at_none : (s new : Stream) → answer_of s ≡ Ok None → new ≡ after s (reading s) → IsAt None new
at_none s new e a = let is = none_reads s (reading s) e in ap reading (a ∙ ap (after s) is) ∙ is

pub at_fault : (s new : Stream) (at : ℕ) (fault : PacketFault) (found : Fault) → found ≡ record { at = at; why = why_of (reason_of fault) } → answer_of s ≡ stands at fault → new ≡ after s (reading s) → IsAt (Some found) new
at_fault s new at fault found is e a = (
  fault,
  sym (ap (λ (f : Fault). f.why) is),
  λ more. ap (λ (x : Stream). rest_of x more) a ∙ sym (ap (λ (r : Result (Option Placed) StreamFault). behind (given r) (rest_of (after s (reading s)) more)) e) ∙ sym (shows_given s more) ∙ shows_fault s more at fault e
      ∙ ap (λ (k : ℕ). capture [] (Some (k, reason_of fault))) (sym (ap (λ (f : Fault). f.at) is)),
)

-- ---- what is only passed

pub record PassedOne (r : Result (Option Placed) StreamFault) (p : Passed) : Type 0 where
  pub item : Placed
  pub is : r ≡ gives item
  pub canonical : item.canonical ≡ p.canonical

pub passed_gives : (r : Result (Option Placed) StreamFault) (p : Passed) → without_packet r ≡ Ok (Some p) → PassedOne r p
passed_gives (Ok None) p e = absurd cc
passed_gives (Ok (Some x)) p e = record { item = x; is = refl; canonical = cc }
passed_gives (Err fault) p e = absurd cc

pub passed_none : (r : Result (Option Placed) StreamFault) → without_packet r ≡ Ok None → r ≡ Ok None
passed_none (Ok None) e = refl
passed_none (Ok (Some x)) e = absurd cc
passed_none (Err fault) e = absurd cc

abbrev failed : StreamFault → Result (Option Placed) StreamFault
failed f = Err f

pub passed_fault : (r : Result (Option Placed) StreamFault) (fault : StreamFault) → without_packet r ≡ Err fault → r ≡ failed fault
passed_fault (Ok None) fault e = absurd cc
passed_fault (Ok (Some x)) fault e = absurd cc
passed_fault (Err other) fault e = let same : other ≡ fault = cc in ap failed same

-- ---- counts

abbrev counted_as : ℕ → ℕ → Counts
counted_as packets canonical = record { packets = packets; canonical = canonical }

both : {n m k l : ℕ} → n ≡ m → k ≡ l → counted_as n k ≡ counted_as m l
both e f = cc

pub counts_added : (a b : List Placed) → counts_of (a ++ b) ≡ added (counts_of a) (counts_of b)
counts_added a b = both (length-append a b) (sum_by-append (λ (item : Placed). cond item.canonical 1 0) a b)

added-none : (counts : Counts) → added counts (counts_of []) ≡ counts
added-none counts = both (omega arith) (omega arith)

pub added-added : (a b c : Counts) → added (added a b) c ≡ added a (added b c)
added-added a b c = both (omega arith) (omega arith)

one_added : (x : Placed) (counts : Counts) → one_more counts x.canonical ≡ added counts (counts_of (x ∷ []))
one_added x counts = both refl (omega (arith, sum_by-cons (λ (item : Placed). cond item.canonical 1 0) x []))

pub counts_none : (s : Stream) (counts : Counts) → CountsOn s s counts counts
counts_none s counts = record { items = []; gave = gave_none s; count = sym (added-none counts) }

pub counts_one : (old mid new : Stream) (counts counted wrote : Counts) (x : Placed) → CountsOn old mid counts counted → answer_of mid ≡ gives x → new ≡ after mid (reading mid)
    → wrote ≡ one_more counted x.canonical → CountsOn old new counts wrote
counts_one old mid new counts counted wrote x c e a w = record {
  items = c.items ++ x ∷ [];
  gave = gave_one old mid new c.items x c.gave e a;
  count = w ∙ one_added x counted ∙ ap (λ (k : Counts). added k (counts_of (x ∷ []))) c.count ∙ added-added counts (counts_of c.items) (counts_of (x ∷ [])) ∙ ap (added counts) (sym (counts_added c.items (x ∷ [])));
}

one_if : (b : Bool) → cond b 1 0 ≤ 1
one_if true = omega arith
one_if false = omega arith

pub less_one : (counts wrote : Counts) (canonical : Bool) → wrote ≡ one_more counts canonical → counts.canonical ≤ counts.packets → wrote.canonical ≤ wrote.packets
less_one counts wrote canonical w le = omega (arith, le, one_if canonical, ap (λ (c : Counts). c.canonical) w, ap (λ (c : Counts). c.packets) w)

pub within_counted : (d : Stream) (counts wrote : Counts) (canonical : Bool) → wrote ≡ one_more counts canonical → IsWithin d (counts.packets + 1) 0 → IsWithin d wrote.packets 0
within_counted d counts wrote canonical w i = within_less d (counts.packets + 1) wrote.packets (omega (arith, ap (λ (c : Counts). c.packets) w)) i

pub counts_same : (old mid new : Stream) (counts counted : Counts) (r : Result (Option Placed) StreamFault) → given r ≡ [] → CountsOn old mid counts counted → answer_of mid ≡ r
    → new ≡ after mid (reading mid) → CountsOn old new counts counted
counts_same old mid new counts counted r none c e a = record { items = c.items; gave = gave_same old mid new c.items r none c.gave e a; count = c.count }

-- ---- lines

pub lines-append : (a b : List Placed) → lines_of (a ++ b) ≡ lines_of a ++ lines_of b
lines-append a b = flat_map-append line_of a b

lines-one : (a : List Placed) (x : Placed) → lines_of (a ++ x ∷ []) ≡ lines_of a ++ line_of x
lines-one a x = lines-append a (x ∷ []) ∙ ap (λ (l : List ℕ). lines_of a ++ l) (append-nil (line_of x))

pub lists_none : (s : Stream) (packets : ℕ) (page : List ℕ) → Lists s s packets packets page page
lists_none s packets page = record { items = []; gave = gave_none s; count = omega arith; wrote = sym (append-nil page) }

pub lists_one : (old mid new : Stream) (packets counted : ℕ) (page put wrote : List ℕ) (x : Placed) → Lists old mid packets counted page put → answer_of mid ≡ gives x → new ≡ after mid (reading mid)
    → wrote ≡ put ++ line_of x → Lists old new packets (counted + 1) page wrote
lists_one old mid new packets counted page put wrote x l e a w = record {
  items = l.items ++ x ∷ [];
  gave = gave_one old mid new l.items x l.gave e a;
  count = omega (arith, l.count, length-append l.items (x ∷ []));
  wrote = w ∙ ap (λ (t : List ℕ). t ++ line_of x) l.wrote ∙ append_assoc page (lines_of l.items) (line_of x) ∙ ap (λ (t : List ℕ). page ++ t) (sym (lines-one l.items x));
}

pub lists_same : (old mid new : Stream) (packets counted : ℕ) (page put : List ℕ) (r : Result (Option Placed) StreamFault) → given r ≡ [] → Lists old mid packets counted page put → answer_of mid ≡ r
    → new ≡ after mid (reading mid) → Lists old new packets counted page put
lists_same old mid new packets counted page put r none l e a = record { items = l.items; gave = gave_same old mid new l.items r none l.gave e a; count = l.count; wrote = l.wrote }

pub lists_as : (old new : Stream) (packets counted other : ℕ) (page put : List ℕ) → counted ≡ other → Lists old new packets other page put → Lists old new packets counted page put
lists_as old new packets counted other page put e l = subst (λ (n : ℕ). Lists old new packets n page put) (sym e) l

pub within_as : (d : Stream) (packets other : ℕ) → packets ≡ other → IsWithin d other 0 → IsWithin d packets 0
within_as d packets other e w = subst (λ (n : ℕ). IsWithin d n 0) (sym e) w

-- ---- how many operations a packet has

body_ops : (body : Body) → 8 * ops_of body ≤ body_length body
body_ops (bodies.Samples time payload) = omega arith
body_ops (bodies.Status s) = omega arith
body_ops (bodies.Command c) = omega arith
body_ops (bodies.Control c) = omega arith
body_ops (bodies.Management m) = omega arith

pub few_ops : (p : Packet) → FitsPacket p → ops_of p.body < 2 ^ 64
few_ops p f = omega (arith, body_ops p.body, f.len)
