-- The reader that lists a pcap file: what it puts and sees of a piece, at the end and past the limit.
use Rattle.std.proofs.Common.{◌≡◌, ℕ, ◌+◌, ◌-◌, ◌<◌, ◌≤◌, Bool, true, false, cond, ltb, eqb, List, [], ◌∷◌, ◌++◌, length, take, Option, None, Some, refl, sym, ap, subst, ◌∙◌, append_assoc, arith}
use Rattle.std.specs.Prelude.{IfSome, IsSome, is_some, ◌&&◌}
use Rattle.std.proofs.lemmas.List.{append-nil, length-append}
use Rattle.rf_outside.specs.Bytes.{Adds, AddsPrefix}
use Rattle.rf_outside.specs.Pieces.{Ends, IsSettled, ReadsOn, Tells}
use Rattle.pcap_input.specs.declared.header.Order.{Order}
use Rattle.pcap_input.specs.declared.item.PcapItem.{PcapItem}
use Rattle.pcap_input.specs.declared.item.PcapReason.{PcapReason}
use Rattle.pcap_input.specs.File.{Why, bad, truncated, File, behind}
use Rattle.pcap_input.specs.Reader.{Pcap, fed_with, opened}
use Rattle.pcap_input.specs.Rest.{rest_of}
use Rattle.pcap_input.proofs.Laws.{shows_all, shows_fed, shows_cut}
use Rattle.capture_tool.specs.declared.pcap.PcapSeen.{PcapSeen}
use Rattle.capture_tool.specs.declared.pcap.Totals.{Totals}
use Rattle.capture_tool.specs.declared.seen.Fault.{Fault}
use Rattle.capture_tool.specs.declared.seen.Why.TheVariants as whys
use Rattle.capture_tool.specs.declared.seen.Why.{Why as Reason}
use Rattle.capture_tool.specs.Seen.{fault_within, limit}
use Rattle.chdr_stream.specs.declared.placed.Placed.{Placed}
use Rattle.chdr_stream.specs.Capture.{Capture, capture_of}
use Rattle.chdr_stream.specs.Capture as captures
use Rattle.chdr_stream.specs.Stream.{Stream}
use Rattle.chdr_stream.specs.Rest as streams
use Rattle.capture_tool.specs.Follows.{IsAt, Lists, last_fault, long_fault}
use Rattle.capture_tool.specs.Listing.{lines_of}
use Rattle.capture_tool.specs.Outcome.{PcapTold}
use Rattle.capture_tool.specs.Pcap.{fault_text, items_text, payload_fault, payload_text, no_totals, pcap_fault_within, pcap_listed, pcap_seen_of, pcap_status, pcap_why, records_of, seen_line, totals_from}
use Rattle.capture_tool.specs.PcapFollows.{IsPcapAt, PcapGave, PcapListed, PcapLists, pcap_last_fault, pcap_listed_after, pcap_seen_after}
use Rattle.capture_tool.proofs.ReaderLemmas.{Last, closes_last, at_end, at_limit, long_as, take-past}
use Rattle.capture_tool.proofs.PcapLemmas.{file, text-append, totals-append}

abbrev pub over : List ℕ → Stream
over payload = record { at = 0; kept = payload; fault = None; held = length payload }

abbrev pub pcap_listing : Pcap → Totals → ℕ → PcapListed
pcap_listing s totals room = record { reader = s; totals = totals; room = room }

abbrev pub pcap_saw : Totals → Option Fault → PcapSeen
pcap_saw totals fault = record { totals = totals; fault = fault }

saw_as : (totals others : Totals) (fault other : Option Fault) → totals ≡ others → fault ≡ other → pcap_saw totals fault ≡ pcap_saw others other
saw_as totals others fault other e f = cc

text_as : (items others : List PcapItem) (seen other : PcapSeen) → items ≡ others → seen ≡ other → items_text items ++ seen_line seen ≡ items_text others ++ seen_line other
text_as items others seen other e f = ap (λ (l : List PcapItem). items_text l ++ seen_line seen) e ∙ ap (λ (s : PcapSeen). items_text others ++ seen_line s) f

-- ---- a piece is fed

whole : (d d1 d2 : Pcap) (room : ℕ) (piece more : List ℕ) (items : List PcapItem) → length piece ≤ room → d1 ≡ fed_with d piece → PcapGave d1 d2 items
    → rest_of d (take room (piece ++ more)) ≡ behind items (rest_of d2 (take (room - length piece) more))
whole d d1 d2 room piece more items le fed g =
    ap (rest_of d) (take-past piece more room le) ∙ sym (shows_fed d piece (take (room - length piece) more)) ∙ ap (λ (s : Pcap). rest_of s (take (room - length piece) more)) (sym fed)
    ∙ g (take (room - length piece) more)

sees_on : (d d1 d2 : Pcap) (totals counted : Totals) (room : ℕ) (piece more : List ℕ) (items : List PcapItem) → length piece ≤ room → d1 ≡ fed_with d piece → PcapGave d1 d2 items → counted ≡ totals_from totals items
    → pcap_seen_after (pcap_listing d totals room) (piece ++ more) ≡ pcap_seen_after (pcap_listing d2 counted (room - length piece)) more
sees_on d d1 d2 totals counted room piece more items le fed g e =
    let w = whole d d1 d2 room piece more items le fed g in
    let rest : File = rest_of d2 (take (room - length piece) more) in
    saw_as (totals_from totals (rest_of d (take room (piece ++ more))).items) (totals_from counted rest.items) (pcap_fault_within (ltb room (length (piece ++ more))) (rest_of d (take room (piece ++ more))).fault)
    (pcap_fault_within (ltb (room - length piece) (length more)) rest.fault)
    (ap (λ (f : File). totals_from totals f.items) w ∙ totals-append items rest.items totals ∙ ap (λ (t : Totals). totals_from t rest.items) (sym e))
    (ap (λ (t : Bool). pcap_fault_within t (rest_of d (take room (piece ++ more))).fault) (long_as room piece more (ltb (room - length piece) (length more)) le refl)
    ∙ ap (λ (f : File). pcap_fault_within (ltb (room - length piece) (length more)) f.fault) w)

pub pcap_reads : (d d1 d2 : Pcap) (totals counted : Totals) (room : ℕ) (piece page put : List ℕ) → length piece ≤ room → d1 ≡ fed_with d piece → PcapLists d1 d2 totals counted page put
    → ReadsOn (pcap_listed_after (pcap_listing d totals room)) (pcap_listed_after (pcap_listing d2 counted (room - length piece))) (pcap_seen_after (pcap_listing d totals room))
    (pcap_seen_after (pcap_listing d2 counted (room - length piece))) piece page put
pcap_reads d d1 d2 totals counted room piece page put le fed l = record {
  put = items_text l.items;
  added = l.wrote;
  puts = λ more.
      let rest : File = rest_of d2 (take (room - length piece) more) in
      let seen : PcapSeen = pcap_seen_after (pcap_listing d2 counted (room - length piece)) more in
      text_as (rest_of d (take room (piece ++ more))).items (l.items ++ rest.items) (pcap_seen_after (pcap_listing d totals room) (piece ++ more)) seen
      (ap (λ (f : File). f.items) (whole d d1 d2 room piece more l.items le fed l.gave)) (sees_on d d1 d2 totals counted room piece more l.items le fed l.gave l.count)
      ∙ ap (λ (t : List ℕ). t ++ seen_line seen) (text-append l.items rest.items) ∙ append_assoc (items_text l.items) (items_text rest.items) (seen_line seen);
  sees = λ more. sees_on d d1 d2 totals counted room piece more l.items le fed l.gave l.count;
}

-- ---- a fault stands

abbrev fault_now : ℕ → Reason → Option Fault
fault_now at why = Some (record { at = at; why = why })

stuck_fault : (fault : Fault) (reason : PcapReason) (long : Bool) (f : File) → pcap_why reason ≡ fault.why → f ≡ file [] (Some (fault.at, bad reason)) → pcap_fault_within long f.fault ≡ Some fault
stuck_fault fault reason long f why is = ap (λ (x : File). pcap_fault_within long x.fault) is ∙ ap (fault_now fault.at) why

stuck_seen : (fault : Fault) (s : Pcap) (totals : Totals) (room : ℕ) (more : List ℕ) → IsPcapAt (Some fault) s → pcap_seen_after (pcap_listing s totals room) more ≡ pcap_saw totals (Some fault)
stuck_seen fault s totals room more (reason, why, stands) =
    saw_as (totals_from totals (rest_of s (take room more)).items) totals (pcap_fault_within (ltb room (length more)) (rest_of s (take room more)).fault) (Some fault)
    (ap (λ (f : File). totals_from totals f.items) (stands (take room more))) (stuck_fault fault reason (ltb room (length more)) (rest_of s (take room more)) why (stands (take room more)))

stuck_items : (fault : Fault) (s : Pcap) (room : ℕ) (more : List ℕ) → IsPcapAt (Some fault) s → (rest_of s (take room more)).items ≡ []
stuck_items fault s room more (reason, why, stands) = ap (λ (f : File). f.items) (stands (take room more))

is_seen : (fault : Fault) (totals : Totals) (seen : PcapSeen) → seen ≡ pcap_saw totals (Some fault) → IsSome seen.fault
is_seen fault totals seen e = subst IsSome (sym (ap (λ (s : PcapSeen). s.fault) e)) refl

pub pcap_settled : (fault : Fault) (s : Pcap) (totals : Totals) (room : ℕ) → IsPcapAt (Some fault) s
    → IsSettled (pcap_listed_after (pcap_listing s totals room)) (pcap_seen_after (pcap_listing s totals room)) × IsSome (pcap_seen_after (pcap_listing s totals room) []).fault
pcap_settled fault s totals room at = (
  record {
    puts = λ more.
        text_as (rest_of s (take room more)).items (rest_of s (take room [])).items (pcap_seen_after (pcap_listing s totals room) more) (pcap_seen_after (pcap_listing s totals room) [])
        (stuck_items fault s room more at ∙ sym (stuck_items fault s room [] at)) (stuck_seen fault s totals room more at ∙ sym (stuck_seen fault s totals room [] at));
    sees = λ more. stuck_seen fault s totals room more at ∙ sym (stuck_seen fault s totals room [] at);
  },
  is_seen fault totals (pcap_seen_after (pcap_listing s totals room) []) (stuck_seen fault s totals room [] at),
)

-- ---- the end, and the limit

cut_within : (t : Bool) (at : ℕ) → pcap_fault_within false (cond t None (Some (at, truncated))) ≡ cond t None (Some (record { at = at; why = whys.Truncated }))
cut_within true at = refl
cut_within false at = refl

long_within : (t : Bool) (at : ℕ) → pcap_fault_within true (cond t None (Some (at, truncated))) ≡ Some (record { at = limit; why = whys.TooLong })
long_within true at = refl
long_within false at = refl

pub record PcapCloses (s : Pcap) (long : Bool) (fault : Option Fault) : Type 0 where
  pub items : (rest_of s []).items ≡ []
  pub tells : pcap_fault_within long (rest_of s []).fault ≡ fault

pcap_closes_last : (stands : Option Fault) (s : Pcap) → IsPcapAt stands s → PcapCloses s false (pcap_last_fault stands s)
pcap_closes_last None s none = record {
  items = ap (λ (f : File). f.items) (shows_cut s none);
  tells = ap (λ (f : File). pcap_fault_within false f.fault) (shows_cut s none) ∙ cut_within (is_some s.order && eqb (length s.kept) 0) s.at;
}
pcap_closes_last (Some fault) s (reason, why, stands) = record { items = ap (λ (f : File). f.items) (stands []); tells = stuck_fault fault reason false (rest_of s []) why (stands []) }

pcap_closes_long : (stands : Option Fault) (s : Pcap) → IsPcapAt stands s → PcapCloses s true (Some (long_fault stands))
pcap_closes_long None s none = record {
  items = ap (λ (f : File). f.items) (shows_cut s none);
  tells = ap (λ (f : File). pcap_fault_within true f.fault) (shows_cut s none) ∙ long_within (is_some s.order && eqb (length s.kept) 0) s.at;
}
pcap_closes_long (Some fault) s (reason, why, stands) = record { items = ap (λ (f : File). f.items) (stands []); tells = stuck_fault fault reason true (rest_of s []) why (stands []) }

lists_last : (d d2 : Pcap) (totals counted : Totals) (room : ℕ) (last : List ℕ) (long : Bool) (page put wrote : List ℕ) (seen : PcapSeen) (fault : Option Fault) → Last room last long
    → PcapLists d d2 totals counted page put → PcapCloses d2 long fault → seen ≡ pcap_saw counted fault → wrote ≡ put ++ seen_line seen
    → Ends (pcap_listed_after (pcap_listing d totals room)) (pcap_seen_after (pcap_listing d totals room)) last page wrote seen
lists_last d d2 totals counted room last long page put wrote seen fault e l c is w =
    let shown : rest_of d (take room last) ≡ behind l.items (rest_of d2 []) = ap (rest_of d) e.none ∙ l.gave [] in
    let items : (rest_of d (take room last)).items ≡ l.items = ap (λ (f : File). f.items) shown ∙ ap (λ (x : List PcapItem). l.items ++ x) c.items ∙ append-nil l.items in
    let tells : pcap_seen_after (pcap_listing d totals room) last ≡ seen =
    saw_as (totals_from totals (rest_of d (take room last)).items) counted (pcap_fault_within (ltb room (length last)) (rest_of d (take room last)).fault) fault
    (ap (totals_from totals) items ∙ sym l.count)
    (ap (λ (t : Bool). pcap_fault_within t (rest_of d (take room last)).fault) e.past ∙ ap (λ (f : File). pcap_fault_within long f.fault) shown ∙ c.tells) ∙ sym is in
    record {
      put = w ∙ ap (λ (t : List ℕ). t ++ seen_line seen) l.wrote ∙ append_assoc page (items_text l.items) (seen_line seen)
          ∙ ap (λ (t : List ℕ). page ++ t) (sym (text_as (rest_of d (take room last)).items l.items (pcap_seen_after (pcap_listing d totals room) last) seen items tells));
      sees = sym tells;
    }

pub pcap_ends : (d d2 : Pcap) (totals counted : Totals) (room : ℕ) (page put wrote : List ℕ) (seen : PcapSeen) (stands fault : Option Fault) → PcapLists d d2 totals counted page put → IsPcapAt stands d2
    → fault ≡ pcap_last_fault stands d2 → seen ≡ pcap_saw counted fault → wrote ≡ put ++ seen_line seen
    → Ends (pcap_listed_after (pcap_listing d totals room)) (pcap_seen_after (pcap_listing d totals room)) [] page wrote seen
pcap_ends d d2 totals counted room page put wrote seen stands fault l at e is w =
    lists_last d d2 totals counted room [] false page put wrote seen fault (at_end room) l (subst (PcapCloses d2 false) (sym e) (pcap_closes_last stands d2 at)) is w

pub pcap_passes : (d d2 : Pcap) (totals counted : Totals) (room : ℕ) (more page put wrote : List ℕ) (seen : PcapSeen) (stands : Option Fault) (fault : Fault) → room ≡ 0 → 0 < length more
    → PcapLists d d2 totals counted page put → IsPcapAt stands d2 → fault ≡ long_fault stands → seen ≡ pcap_saw counted (Some fault) → wrote ≡ put ++ seen_line seen
    → Ends (pcap_listed_after (pcap_listing d totals room)) (pcap_seen_after (pcap_listing d totals room)) more page wrote seen
pcap_passes d d2 totals counted room more page put wrote seen stands fault none some l at e is w =
    lists_last d d2 totals counted room more true page put wrote seen (Some fault) (at_limit room more none some) l (subst (λ (f : Fault). PcapCloses d2 true (Some f)) (sym e) (pcap_closes_long stands d2 at)) is w

-- ---- the whole file

seen_whole : (port : ℕ) (bytes : List ℕ) → pcap_seen_after (pcap_listing (opened port) no_totals limit) bytes ≡ pcap_seen_of port bytes
seen_whole port bytes =
    let w = shows_all port (take limit bytes) in
    saw_as (totals_from no_totals (rest_of (opened port) (take limit bytes)).items) (totals_from no_totals (records_of port bytes))
    (pcap_fault_within (ltb limit (length bytes)) (rest_of (opened port) (take limit bytes)).fault) (pcap_seen_of port bytes).fault (ap (λ (f : File). totals_from no_totals f.items) w)
    (ap (λ (f : File). pcap_fault_within (ltb limit (length bytes)) f.fault) w)

listed_whole : (port : ℕ) (bytes : List ℕ) → pcap_listed_after (pcap_listing (opened port) no_totals limit) bytes ≡ pcap_listed port bytes
listed_whole port bytes =
    text_as (rest_of (opened port) (take limit bytes)).items (records_of port bytes) (pcap_seen_after (pcap_listing (opened port) no_totals limit) bytes) (pcap_seen_of port bytes)
    (ap (λ (f : File). f.items) (shows_all port (take limit bytes))) (seen_whole port bytes)

pub pcap_told : (left begun now : Option (List ℕ)) (port : ℕ) (reader : PcapListed) (seen : PcapSeen) (status : ℕ) → reader ≡ pcap_listing (opened port) no_totals limit → status ≡ pcap_status seen
    → IfSome left (λ bytes. Tells begun now (pcap_listed_after reader bytes) (pcap_seen_after reader bytes) seen) → IfSome left (λ bytes. PcapTold port bytes status begun now)
pcap_told None begun now port reader seen status new is t = tt
pcap_told (Some bytes) begun now port reader seen status new is t = record {
  written = subst (λ (l : List ℕ). Adds begun now l) (ap (λ (r : PcapListed). pcap_listed_after r bytes) new ∙ listed_whole port bytes) t.written;
  tells = is ∙ ap pcap_status (t.sees ∙ ap (λ (r : PcapListed). pcap_seen_after r bytes) new ∙ seen_whole port bytes);
}

pub pcap_prefix : (left begun now : Option (List ℕ)) (port : ℕ) (reader : PcapListed) → reader ≡ pcap_listing (opened port) no_totals limit → IfSome left (λ bytes. AddsPrefix begun now (pcap_listed_after reader bytes))
    → IfSome left (λ bytes. AddsPrefix begun now (pcap_listed port bytes))
pcap_prefix None begun now port reader new p = tt
pcap_prefix (Some bytes) begun now port reader new p = subst (λ (l : List ℕ). AddsPrefix begun now l) (ap (λ (r : PcapListed). pcap_listed_after r bytes) new ∙ listed_whole port bytes) p

-- ---- a payload

pub record PayloadListed (payload : List ℕ) (packets : ℕ) (fault : Option Fault) (page wrote : List ℕ) : Type 0 where
  pub put : wrote ≡ page ++ payload_text payload
  pub counts : packets ≡ length (capture_of payload).items
  pub tells : fault ≡ payload_fault payload

over_whole : (payload : List ℕ) → streams.rest_of (over payload) [] ≡ capture_of payload
unfolding streams.rest_of
over_whole payload = ap capture_of (append-nil payload)

pub payload_listed : (payload : List ℕ) (d d2 : Stream) (packets : ℕ) (page put wrote : List ℕ) (stands fault : Option Fault) → d ≡ over payload → Lists d d2 0 packets page put → IsAt stands d2 → fault ≡ last_fault stands d2
    → wrote ≡ put ++ fault_text fault → PayloadListed payload packets fault page wrote
payload_listed payload d d2 packets page put wrote stands fault new l at e w =
    let c = closes_last stands d2 at in
    let whole : capture_of payload ≡ captures.behind l.items (streams.rest_of d2 []) = sym (over_whole payload) ∙ ap (λ (s : Stream). streams.rest_of s []) (sym new) ∙ l.gave [] in
    let items : (capture_of payload).items ≡ l.items = ap (λ (x : Capture). x.items) whole ∙ ap (λ (x : List Placed). l.items ++ x) c.items ∙ append-nil l.items in
    let tells : fault ≡ payload_fault payload = e ∙ sym c.tells ∙ ap (λ (x : Capture). fault_within false x.fault) (sym whole) in
    record {
      put = w ∙ ap (λ (t : List ℕ). t ++ fault_text fault) l.wrote ∙ append_assoc page (lines_of l.items) (fault_text fault)
          ∙ ap (λ (x : List Placed). page ++ (lines_of x ++ fault_text fault)) (sym items) ∙ ap (λ (f : Option Fault). page ++ (lines_of (capture_of payload).items ++ fault_text f)) tells;
      counts = omega (arith, l.count, ap (λ (x : List Placed). length x) items);
      tells = tells;
    }
