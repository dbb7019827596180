-- The readers that list and check a capture: what they put and see of a piece, at the end and past the limit.
use Rattle.std.proofs.Common.{◌≡◌, ℕ, zero, suc, ◌+◌, ◌-◌, ◌<◌, ◌≤◌, Bool, true, false, cond, ltb, eqb, List, [], ◌∷◌, ◌++◌, length, take, Option, None, Some, refl, sym, ap, subst, ◌∙◌, append_assoc, arith}
use Rattle.std.specs.Prelude.{IsSome}
use Rattle.std.proofs.lemmas.Bool.{lt-ltb, le-ltb, ltb-true, ltb-false}
use Rattle.std.proofs.lemmas.List.{append-nil, length-append}
use Rattle.rf_outside.specs.Pieces.{Ends, IsSettled, ReadsOn}
use Rattle.chdr_words.specs.declared.fault.MsgFault.TheVariants as messages
use Rattle.chdr_packets.specs.declared.fault.PacketFault.{PacketFault}
use Rattle.chdr_packets.specs.declared.fault.PacketFault.TheVariants as packets
use Rattle.chdr_stream.specs.declared.placed.Placed.{Placed}
use Rattle.chdr_stream.specs.Capture.{Reason, reason_of, truncated, Capture, behind}
use Rattle.chdr_stream.specs.Stream.{Stream, fed_with}
use Rattle.chdr_stream.specs.Rest.{rest_of}
use Rattle.chdr_stream.specs.Calls.{opened}
use Rattle.chdr_stream.proofs.Laws.{shows_all, shows_fed, shows_cut}
use Rattle.capture_tool.specs.declared.seen.Counts.{Counts}
use Rattle.capture_tool.specs.declared.seen.Seen.{Seen}
use Rattle.capture_tool.specs.declared.seen.Fault.{Fault}
use Rattle.capture_tool.specs.declared.seen.Why.{Why}
use Rattle.capture_tool.specs.declared.seen.Why.TheVariants as whys
use Rattle.capture_tool.specs.Seen.{limit, why_of, fault_within, items_of, fault_of, counts_of, seen_of}
use Rattle.capture_tool.specs.Listing.{last_line, lines_of, listed}
use Rattle.capture_tool.specs.Follows.{Listed, Checked, Gave, Lists, CountsOn, IsAt, added, items_after, fault_after, listed_after, seen_after, last_fault, long_fault}
use Rattle.capture_tool.proofs.FollowLemmas.{capture, counts_added, added-added, lines-append}

abbrev pub listing : Stream → ℕ → ℕ → Listed
listing d packets room = record { decoder = d; packets = packets; room = room }

abbrev pub checking : Stream → Counts → ℕ → Checked
checking d counts room = record { decoder = d; counts = counts; room = room }

abbrev pub no_text : List ℕ
no_text = []

abbrev pub no_counts : Counts
no_counts = record { packets = 0; canonical = 0 }

abbrev pub saw : Counts → Option Fault → Seen
saw counts fault = record { counts = counts; fault = fault }

abbrev pub faults : Stream → ℕ → List ℕ → Option Fault
faults d room more = fault_after d room more

-- ---- a piece is fed

pub take-past : (piece more : List ℕ) (room : ℕ) → length piece ≤ room → take room (piece ++ more) ≡ piece ++ take (room - length piece) more
take-past [] more room le = let e : room - 0 ≡ room = omega arith in rw e refl
take-past (x ∷ piece) more zero le = absurd (omega arith)
take-past (x ∷ piece) more (suc room) le =
    let e : room - length piece ≡ suc room - suc (length piece) = omega arith in
    ap (λ (l : List ℕ). x ∷ l) (take-past piece more room (omega arith)) ∙ ap (λ (k : ℕ). x ∷ (piece ++ take k more)) e

pub long_as : (room : ℕ) (piece more : List ℕ) (t : Bool) → length piece ≤ room → ltb (room - length piece) (length more) ≡ t → ltb room (length (piece ++ more)) ≡ t
long_as room piece more true le e = lt-ltb _ _ (omega (arith, length-append piece more, le, ltb-true _ _ e))
long_as room piece more false le e = le-ltb _ _ (omega (arith, length-append piece more, le, ltb-false _ _ e))

-- what the decoder shows of the piece and of what follows
whole : (d d1 d2 : Stream) (room : ℕ) (piece more : List ℕ) (items : List Placed) → length piece ≤ room → d1 ≡ fed_with d piece → Gave d1 d2 items
    → rest_of d (take room (piece ++ more)) ≡ behind items (rest_of d2 (take (room - length piece) more))
whole d d1 d2 room piece more items le fed g =
    ap (rest_of d) (take-past piece more room le) ∙ sym (shows_fed d piece (take (room - length piece) more)) ∙ ap (λ (s : Stream). rest_of s (take (room - length piece) more)) (sym fed)
    ∙ g (take (room - length piece) more)

fault_on : (d d1 d2 : Stream) (room : ℕ) (piece more : List ℕ) (items : List Placed) → length piece ≤ room → d1 ≡ fed_with d piece → Gave d1 d2 items
    → fault_after d room (piece ++ more) ≡ fault_after d2 (room - length piece) more
fault_on d d1 d2 room piece more items le fed g =
    ap (λ (t : Bool). fault_within t (rest_of d (take room (piece ++ more))).fault) (long_as room piece more (ltb (room - length piece) (length more)) le refl)
    ∙ ap (λ (c : Capture). fault_within (ltb (room - length piece) (length more)) c.fault) (whole d d1 d2 room piece more items le fed g)

items_on : (d d1 d2 : Stream) (room : ℕ) (piece more : List ℕ) (items : List Placed) → length piece ≤ room → d1 ≡ fed_with d piece → Gave d1 d2 items
    → items_after d room (piece ++ more) ≡ items ++ items_after d2 (room - length piece) more
items_on d d1 d2 room piece more items le fed g = ap (λ (c : Capture). c.items) (whole d d1 d2 room piece more items le fed g)

-- the lines of packets that were counted, and the last line
lines_then : (packets counted : ℕ) (items rest : List Placed) (fault : Option Fault) → counted ≡ packets + length items
    → lines_of (items ++ rest) ++ last_line (packets + length (items ++ rest)) fault ≡ lines_of items ++ (lines_of rest ++ last_line (counted + length rest) fault)
lines_then packets counted items rest fault e =
    let count : packets + length (items ++ rest) ≡ counted + length rest = omega (arith, e, length-append items rest) in
    ap (λ (l : List ℕ). l ++ last_line (packets + length (items ++ rest)) fault) (lines-append items rest) ∙ append_assoc (lines_of items) (lines_of rest) (last_line (packets + length (items ++ rest)) fault)
    ∙ ap (λ (n : ℕ). lines_of items ++ (lines_of rest ++ last_line n fault)) count

text_as : (packets : ℕ) (items others : List Placed) (fault other : Option Fault) → items ≡ others → fault ≡ other
    → lines_of items ++ last_line (packets + length items) fault ≡ lines_of others ++ last_line (packets + length others) other
text_as packets items others fault other e f =
    ap (λ (l : List Placed). lines_of l ++ last_line (packets + length l) fault) e ∙ ap (λ (x : Option Fault). lines_of others ++ last_line (packets + length others) x) f

pub lists_on : (d d1 d2 : Stream) (packets counted room : ℕ) (piece page put : List ℕ) → length piece ≤ room → d1 ≡ fed_with d piece → Lists d1 d2 packets counted page put
    → ReadsOn (listed_after (listing d packets room)) (listed_after (listing d2 counted (room - length piece))) (faults d room) (faults d2 (room - length piece)) piece page put
lists_on d d1 d2 packets counted room piece page put le fed l = record {
  put = lines_of l.items;
  added = l.wrote;
  puts = λ more.
      text_as packets (items_after d room (piece ++ more)) (l.items ++ items_after d2 (room - length piece) more) (fault_after d room (piece ++ more)) (fault_after d2 (room - length piece) more)
      (items_on d d1 d2 room piece more l.items le fed l.gave) (fault_on d d1 d2 room piece more l.items le fed l.gave)
      ∙ lines_then packets counted l.items (items_after d2 (room - length piece) more) (fault_after d2 (room - length piece) more) l.count;
  sees = λ more. fault_on d d1 d2 room piece more l.items le fed l.gave;
}

seen_as : (counts others : Counts) (fault other : Option Fault) → counts ≡ others → fault ≡ other → saw counts fault ≡ saw others other
seen_as counts others fault other e f = cc

counts_then : (counts counted : Counts) (items rest : List Placed) → counted ≡ added counts (counts_of items) → added counts (counts_of (items ++ rest)) ≡ added counted (counts_of rest)
counts_then counts counted items rest e = ap (added counts) (counts_added items rest) ∙ sym (added-added counts (counts_of items) (counts_of rest)) ∙ ap (λ (c : Counts). added c (counts_of rest)) (sym e)

pub counts_on : (d d1 d2 : Stream) (counts counted : Counts) (room : ℕ) (piece page : List ℕ) → length piece ≤ room → d1 ≡ fed_with d piece → CountsOn d1 d2 counts counted
    → ReadsOn (λ (more : List ℕ). no_text) (λ (more : List ℕ). no_text) (seen_after (checking d counts room)) (seen_after (checking d2 counted (room - length piece))) piece page page
counts_on d d1 d2 counts counted room piece page le fed c = record {
  put = [];
  added = sym (append-nil page);
  puts = λ more. refl;
  sees = λ more.
      seen_as (added counts (counts_of (items_after d room (piece ++ more)))) (added counted (counts_of (items_after d2 (room - length piece) more))) (fault_after d room (piece ++ more)) (fault_after d2 (room - length piece) more)
      (ap (λ (l : List Placed). added counts (counts_of l)) (items_on d d1 d2 room piece more c.items le fed c.gave) ∙ counts_then counts counted c.items (items_after d2 (room - length piece) more) c.count)
      (fault_on d d1 d2 room piece more c.items le fed c.gave);
}

-- ---- a fault stands

abbrev fault_now : ℕ → Why → Option Fault
fault_now at why = Some (record { at = at; why = why })

within_fault : (fault : PacketFault) (long : Bool) (at : ℕ) → fault_within long (Some (at, reason_of fault)) ≡ fault_now at (why_of (reason_of fault))
within_fault packets.ReservedType long at = refl
within_fault packets.BadLength long at = refl
within_fault (packets.Message messages.BadStatusLength) long at = refl
within_fault (packets.Message messages.BadCommandLength) long at = refl
within_fault (packets.Message messages.BadControlLength) long at = refl
within_fault (packets.Message messages.BadManagement) long at = refl
within_fault (packets.Message messages.Memory) long at = refl
within_fault packets.Memory long at = refl

stuck_fault : (fault : Fault) (reason : PacketFault) (long : Bool) (c : Capture) → why_of (reason_of reason) ≡ fault.why → c ≡ capture [] (Some (fault.at, reason_of reason)) → fault_within long c.fault ≡ Some fault
stuck_fault fault reason long c why is = ap (λ (x : Capture). fault_within long x.fault) is ∙ within_fault reason long fault.at ∙ ap (fault_now fault.at) why

pub settled_fault : (fault : Fault) (d : Stream) (room : ℕ) (more : List ℕ) → IsAt (Some fault) d → fault_after d room more ≡ Some fault
settled_fault fault d room more (reason, why, stands) = stuck_fault fault reason (ltb room (length more)) (rest_of d (take room more)) why (stands (take room more))

settled_items : (fault : Fault) (d : Stream) (room : ℕ) (more : List ℕ) → IsAt (Some fault) d → items_after d room more ≡ []
settled_items fault d room more (reason, why, stands) = ap (λ (c : Capture). c.items) (stands (take room more))

is_some : (fault : Fault) (o : Option Fault) → o ≡ Some fault → IsSome o
is_some fault o e = subst IsSome (sym e) refl

pub lists_settled : (fault : Fault) (d : Stream) (packets room : ℕ) → IsAt (Some fault) d → IsSettled (listed_after (listing d packets room)) (faults d room) × IsSome (fault_after d room [])
lists_settled fault d packets room s = (
  record {
    puts = λ more.
        text_as packets (items_after d room more) (items_after d room []) (fault_after d room more) (fault_after d room []) (settled_items fault d room more s ∙ sym (settled_items fault d room [] s))
        (settled_fault fault d room more s ∙ sym (settled_fault fault d room [] s));
    sees = λ more. settled_fault fault d room more s ∙ sym (settled_fault fault d room [] s);
  },
  is_some fault (fault_after d room []) (settled_fault fault d room [] s),
)

pub counts_settled : (fault : Fault) (d : Stream) (counts : Counts) (room : ℕ) → IsAt (Some fault) d
    → IsSettled (λ (more : List ℕ). no_text) (seen_after (checking d counts room)) × IsSome (seen_after (checking d counts room) []).fault
counts_settled fault d counts room s = (
  record {
    puts = λ more. refl;
    sees = λ more.
        seen_as (added counts (counts_of (items_after d room more))) (added counts (counts_of (items_after d room []))) (fault_after d room more) (fault_after d room [])
        (ap (λ (l : List Placed). added counts (counts_of l)) (settled_items fault d room more s ∙ sym (settled_items fault d room [] s)))
        (settled_fault fault d room more s ∙ sym (settled_fault fault d room [] s));
  },
  is_some fault (fault_after d room []) (settled_fault fault d room [] s),
)

-- ---- the end, and the limit

cut_within : (t : Bool) (at : ℕ) → fault_within false (cond t None (Some (at, truncated))) ≡ cond t None (Some (record { at = at; why = whys.Truncated }))
cut_within true at = refl
cut_within false at = refl

-- nothing is shown behind the packets given, and the fault is the last one
pub record Closes (d : Stream) (long : Bool) (fault : Option Fault) : Type 0 where
  pub items : (rest_of d []).items ≡ []
  pub tells : fault_within long (rest_of d []).fault ≡ fault

pub closes_last : (stands : Option Fault) (d : Stream) → IsAt stands d → Closes d false (last_fault stands d)
closes_last None d none = record {
  items = ap (λ (c : Capture). c.items) (shows_cut d none);
  tells = ap (λ (c : Capture). fault_within false c.fault) (shows_cut d none) ∙ cut_within (eqb (length d.kept) 0) d.at;
}
closes_last (Some fault) d (reason, why, stands) = record { items = ap (λ (c : Capture). c.items) (stands []); tells = stuck_fault fault reason false (rest_of d []) why (stands []) }

long_within : (t : Bool) (at : ℕ) → fault_within true (cond t None (Some (at, truncated))) ≡ Some (record { at = limit; why = whys.TooLong })
long_within true at = refl
long_within false at = refl

pub closes_long : (stands : Option Fault) (d : Stream) → IsAt stands d → Closes d true (Some (long_fault stands))
closes_long None d none = record {
  items = ap (λ (c : Capture). c.items) (shows_cut d none);
  tells = ap (λ (c : Capture). fault_within true c.fault) (shows_cut d none) ∙ long_within (eqb (length d.kept) 0) d.at;
}
closes_long (Some fault) d (reason, why, stands) = record { items = ap (λ (c : Capture). c.items) (stands []); tells = stuck_fault fault reason true (rest_of d []) why (stands []) }

-- of the last bytes nothing more is taken
pub record Last (room : ℕ) (last : List ℕ) (long : Bool) : Type 0 where
  pub none : take room last ≡ []
  pub past : ltb room (length last) ≡ long

ends_parts : (d d2 : Stream) (room : ℕ) (last : List ℕ) (long : Bool) (items : List Placed) (fault : Option Fault) → Last room last long → Gave d d2 items → Closes d2 long fault
    → (items_after d room last ≡ items) × (fault_after d room last ≡ fault)
ends_parts d d2 room last long items fault e g c =
    let shown : rest_of d (take room last) ≡ behind items (rest_of d2 []) = ap (rest_of d) e.none ∙ g [] in (
      ap (λ (x : Capture). x.items) shown ∙ ap (λ (l : List Placed). items ++ l) c.items ∙ append-nil items,
      ap (λ (t : Bool). fault_within t (rest_of d (take room last)).fault) e.past ∙ ap (λ (x : Capture). fault_within long x.fault) shown ∙ c.tells,
    )

lists_last : (d d2 : Stream) (packets counted room : ℕ) (last : List ℕ) (long : Bool) (page put wrote : List ℕ) (fault : Option Fault) → Last room last long → Lists d d2 packets counted page put → Closes d2 long fault
    → wrote ≡ put ++ last_line counted fault → Ends (listed_after (listing d packets room)) (faults d room) last page wrote fault
lists_last d d2 packets counted room last long page put wrote fault e l c w =
    let parts = ends_parts d d2 room last long l.items fault e l.gave c in
    record {
      put = w ∙ ap (λ (t : List ℕ). t ++ last_line counted fault) l.wrote ∙ append_assoc page (lines_of l.items) (last_line counted fault)
          ∙ ap (λ (n : ℕ). page ++ (lines_of l.items ++ last_line n fault)) l.count
          ∙ ap (λ (t : List ℕ). page ++ t) (sym (text_as packets (items_after d room last) l.items (fault_after d room last) fault parts.0 parts.1));
      sees = sym parts.1;
    }

pub at_end : (room : ℕ) → Last room [] false
at_end zero = record { none = refl; past = refl }
at_end (suc room) = record { none = refl; past = le-ltb _ _ (omega arith) }

pub at_limit : (room : ℕ) (more : List ℕ) → room ≡ 0 → 0 < length more → Last room more true
at_limit room more none some = record { none = rw none refl; past = lt-ltb _ _ (omega arith) }

pub lists_end : (d d2 : Stream) (packets counted room : ℕ) (page put wrote : List ℕ) (stands fault : Option Fault) → Lists d d2 packets counted page put → IsAt stands d2 → fault ≡ last_fault stands d2
    → wrote ≡ put ++ last_line counted fault → Ends (listed_after (listing d packets room)) (faults d room) [] page wrote fault
lists_end d d2 packets counted room page put wrote stands fault l at e w =
    lists_last d d2 packets counted room [] false page put wrote fault (at_end room) l (subst (Closes d2 false) (sym e) (closes_last stands d2 at)) w

pub lists_long : (d d2 : Stream) (packets counted room : ℕ) (more page put wrote : List ℕ) (stands : Option Fault) (fault : Fault) → room ≡ 0 → 0 < length more → Lists d d2 packets counted page put → IsAt stands d2
    → fault ≡ long_fault stands → wrote ≡ put ++ last_line counted (Some fault) → Ends (listed_after (listing d packets room)) (faults d room) more page wrote (Some fault)
lists_long d d2 packets counted room more page put wrote stands fault none some l at e w =
    lists_last d d2 packets counted room more true page put wrote (Some fault) (at_limit room more none some) l (subst (λ (f : Fault). Closes d2 true (Some f)) (sym e) (closes_long stands d2 at)) w

counts_last : (d d2 : Stream) (counts counted : Counts) (room : ℕ) (last : List ℕ) (long : Bool) (page : List ℕ) (fault : Option Fault) → Last room last long → CountsOn d d2 counts counted → Closes d2 long fault
    → Ends (λ (more : List ℕ). no_text) (seen_after (checking d counts room)) last page page (saw counted fault)
counts_last d d2 counts counted room last long page fault e n c =
    let parts = ends_parts d d2 room last long n.items fault e n.gave c in
    record {
      put = sym (append-nil page);
      sees = sym (seen_as (added counts (counts_of (items_after d room last))) counted (fault_after d room last) fault (ap (λ (l : List Placed). added counts (counts_of l)) parts.0 ∙ sym n.count) parts.1);
    }

pub counts_end : (d d2 : Stream) (counts counted : Counts) (room : ℕ) (page : List ℕ) (stands fault : Option Fault) → CountsOn d d2 counts counted → IsAt stands d2 → fault ≡ last_fault stands d2
    → Ends (λ (more : List ℕ). no_text) (seen_after (checking d counts room)) [] page page (saw counted fault)
counts_end d d2 counts counted room page stands fault n at e = counts_last d d2 counts counted room [] false page fault (at_end room) n (subst (Closes d2 false) (sym e) (closes_last stands d2 at))

pub counts_long : (d d2 : Stream) (counts counted : Counts) (room : ℕ) (more page : List ℕ) (stands : Option Fault) (fault : Fault) → room ≡ 0 → 0 < length more → CountsOn d d2 counts counted → IsAt stands d2
    → fault ≡ long_fault stands → Ends (λ (more : List ℕ). no_text) (seen_after (checking d counts room)) more page page (saw counted (Some fault))
counts_long d d2 counts counted room more page stands fault none some n at e =
    counts_last d d2 counts counted room more true page (Some fault) (at_limit room more none some) n (subst (λ (f : Fault). Closes d2 true (Some f)) (sym e) (closes_long stands d2 at))

-- ---- the whole capture

pub fault_whole : (bytes : List ℕ) → fault_after opened limit bytes ≡ fault_of bytes
fault_whole bytes = ap (λ (c : Capture). fault_within (ltb limit (length bytes)) c.fault) (shows_all (take limit bytes))

items_whole : (bytes : List ℕ) → items_after opened limit bytes ≡ items_of bytes
items_whole bytes = ap (λ (c : Capture). c.items) (shows_all (take limit bytes))

pub listed_whole : (bytes : List ℕ) → listed_after (listing opened 0 limit) bytes ≡ listed bytes
listed_whole bytes =
    text_as 0 (items_after opened limit bytes) (items_of bytes) (fault_after opened limit bytes) (fault_of bytes) (items_whole bytes) (fault_whole bytes)
    ∙ ap (λ (n : ℕ). lines_of (items_of bytes) ++ last_line n (fault_of bytes)) (zero_plus (length (items_of bytes)))
  where
    zero_plus : (n : ℕ) → 0 + n ≡ n
    zero_plus n = omega arith

pub seen_whole : (bytes : List ℕ) → seen_after (checking opened no_counts limit) bytes ≡ seen_of bytes
seen_whole bytes =
    seen_as (added no_counts (counts_of (items_after opened limit bytes))) (counts_of (items_of bytes)) (fault_after opened limit bytes) (fault_of bytes)
    (ap (λ (l : List Placed). added no_counts (counts_of l)) (items_whole bytes) ∙ none_added (counts_of (items_of bytes))) (fault_whole bytes)
  where
    parts : ℕ → ℕ → Counts
    parts packets canonical = record { packets = packets; canonical = canonical }

    both : {n m k l : ℕ} → n ≡ m → k ≡ l → parts n k ≡ parts m l
    both e f = cc

    none_added : (c : Counts) → added no_counts c ≡ c
    none_added c = let packets : 0 + c.packets ≡ c.packets = omega arith in let canonical : 0 + c.canonical ≡ c.canonical = omega arith in both packets canonical
