-- What a reader of a pcap file shows of the bytes that follow, record by record.
use Rattle.std.proofs.Common.{◌≡◌, ℕ, ◌+◌, ◌*◌, ◌<◌, ◌≤◌, List, [], ◌∷◌, ◌++◌, length, Option, None, Some, Result, Ok, Err, refl, sym, ap, subst, ◌∙◌, append_assoc, arith}
use Rattle.std.proofs.lemmas.List.{append-nil, length-append}
use Rattle.std.proofs.lemmas.Grind.{flat_map-append}
use Rattle.chdr_stream.specs.Capture.{capture_of}
use Rattle.pcap_input.specs.declared.header.Order.{Order}
use Rattle.pcap_input.specs.declared.item.PcapItem.{PcapItem}
use Rattle.pcap_input.specs.declared.item.PcapItem.TheVariants.{Datagram, Cut, Other}
use Rattle.pcap_input.specs.declared.item.PcapFault.{PcapFault}
use Rattle.pcap_input.specs.declared.item.PcapFault.TheVariants.{Bad}
use Rattle.pcap_input.specs.declared.item.PcapReason.{PcapReason}
use Rattle.pcap_input.specs.File.{Why, bad, File, behind}
use Rattle.pcap_input.specs.Reader.{Pcap, answer_of, fed_with, next_of}
use Rattle.pcap_input.specs.Rest.{given, payload_in, rest_of}
use Rattle.pcap_input.proofs.Laws.{shows_given, shows_fault, drains_all, passes_bytes}
use Rattle.capture_tool.specs.declared.pcap.Totals.{Totals}
use Rattle.capture_tool.specs.declared.seen.Fault.{Fault}
use Rattle.capture_tool.specs.Seen.{limit}
use Rattle.capture_tool.specs.Pcap.{faults_of, item_text, item_totals, items_text, no_totals, payload_fault, pcap_why, summed, totals_from}
use Rattle.capture_tool.specs.PcapFollows.{IsCounted, IsPcapAt, PcapGave, PcapLists}

abbrev pub file : List PcapItem → Option (ℕ × Why) → File
file items fault = record { items = items; fault = fault }

abbrev pub gives_item : PcapItem → Result (Option PcapItem) PcapFault
gives_item x = Ok (Some x)

abbrev pub stands_at : ℕ → PcapReason → Result (Option PcapItem) PcapFault
stands_at at reason = Err (Bad at reason)

-- ---- the items that a reader gives

gave_then : (old mid new : Pcap) (items : List PcapItem) → PcapGave old mid items → new ≡ next_of mid → PcapGave old new (items ++ given (answer_of mid))
gave_then old mid new items g a = λ more.
    g more ∙ ap (behind items) (shows_given mid more ∙ ap (λ (s : Pcap). behind (given (answer_of mid)) (rest_of s more)) (sym a))
    ∙ ap (λ (l : List PcapItem). file l (rest_of new more).fault) (sym (append_assoc items (given (answer_of mid)) (rest_of new more).items))

gave_one : (old mid new : Pcap) (items : List PcapItem) (x : PcapItem) → PcapGave old mid items → answer_of mid ≡ gives_item x → new ≡ next_of mid → PcapGave old new (items ++ x ∷ [])
gave_one old mid new items x g e a = subst (λ (r : Result (Option PcapItem) PcapFault). PcapGave old new (items ++ given r)) e (gave_then old mid new items g a)

gave_same : (old mid new : Pcap) (items : List PcapItem) (r : Result (Option PcapItem) PcapFault) → given r ≡ [] → PcapGave old mid items → answer_of mid ≡ r → new ≡ next_of mid → PcapGave old new items
gave_same old mid new items r none g e a =
    subst (λ (l : List PcapItem). PcapGave old new l) (ap (λ (l : List PcapItem). items ++ l) (ap given e ∙ none) ∙ append-nil items) (gave_then old mid new items g a)

-- ---- counts

pub totals-append : (items more : List PcapItem) (totals : Totals) → totals_from totals (items ++ more) ≡ totals_from (totals_from totals items) more
totals-append [] more totals = refl
totals-append (item ∷ items) more totals = totals-append items more (summed totals (item_totals item))

pub text-append : (items more : List PcapItem) → items_text (items ++ more) ≡ items_text items ++ items_text more
text-append items more = flat_map-append item_text items more

pub record Small (t : Totals) : Type 0 where
  pub one : t.records ≡ 1
  pub some : t.datagrams ≤ 1
  pub cuts : t.cut ≤ 1
  pub faulty : t.faults ≤ 1

few_faults : (fault : Option Fault) → faults_of fault ≤ 1
few_faults None = omega arith
few_faults (Some fault) = omega arith

item_small : (item : PcapItem) → Small (item_totals item)
item_small (Datagram number from to payload) = record { one = refl; some = omega arith; cuts = omega arith; faulty = few_faults (payload_fault payload) }
item_small (Cut number) = record { one = refl; some = omega arith; cuts = omega arith; faulty = omega arith }
item_small (Other number) = record { one = refl; some = omega arith; cuts = omega arith; faulty = omega arith }

pub small : (item : PcapItem) (t : Totals) → t ≡ item_totals item → Small t
small item t e = subst Small (sym e) (item_small item)

-- the record's bytes bound its payload
pub payload_within : (old new : Pcap) (item : PcapItem) (totals : Totals) → answer_of old ≡ gives_item item → new ≡ next_of old → new.at + length new.kept ≡ old.at + length old.kept → IsCounted old totals 0
    → length (payload_in item) ≤ limit
payload_within old new item totals e a place c = omega (arith, passes_bytes old item e, ap (λ (s : Pcap). s.at) a, place, c.bytes)

pub counted_one : (old new : Pcap) (item : PcapItem) (totals t counted : Totals) → answer_of old ≡ gives_item item → new ≡ next_of old → new.at + length new.kept ≡ old.at + length old.kept → t ≡ item_totals item
    → 8 * t.packets ≤ length (payload_in item) → counted ≡ summed totals t → IsCounted old totals 0 → IsCounted new counted 0
counted_one old new item totals t counted e a place is few sum c =
    let s = small item t is in
    let passed : old.at + 16 + length (payload_in item) ≤ new.at = omega (arith, passes_bytes old item e, ap (λ (s : Pcap). s.at) a) in
    subst (λ (k : Totals). IsCounted new k 0) (sym sum) (record {
      bytes = omega (arith, c.bytes, place);
      each = omega (arith, c.each, passed, s.one);
      packed = omega (arith, c.packed, passed, few);
      some = omega (arith, c.some, s.some, s.one);
      cuts = omega (arith, c.cuts, s.cuts, s.one);
      faulty = omega (arith, c.faulty, s.faulty, s.one);
    })

pub counted_same : (old new : Pcap) (totals : Totals) → old.at ≤ new.at → new.at + length new.kept ≡ old.at + length old.kept → IsCounted old totals 0 → IsCounted new totals 0
counted_same old new totals at place c = record {
  bytes = omega (arith, c.bytes, place);
  each = omega (arith, c.each, at);
  packed = omega (arith, c.packed, at);
  some = c.some;
  cuts = c.cuts;
  faulty = c.faulty;
}

-- ---- what was listed

pub lists_none : (s : Pcap) (totals : Totals) (page : List ℕ) → PcapLists s s totals totals page page
lists_none s totals page = record { items = []; gave = λ more. refl; count = refl; wrote = sym (append-nil page) }

pub lists_one : (old mid new : Pcap) (totals counted t sum : Totals) (page put wrote : List ℕ) (x : PcapItem) → PcapLists old mid totals counted page put → answer_of mid ≡ gives_item x → new ≡ next_of mid
    → t ≡ item_totals x → sum ≡ summed counted t → wrote ≡ put ++ item_text x → PcapLists old new totals sum page wrote
lists_one old mid new totals counted t sum page put wrote x l e a is added w = record {
  items = l.items ++ x ∷ [];
  gave = gave_one old mid new l.items x l.gave e a;
  count = added ∙ ap (summed counted) is ∙ ap (λ (k : Totals). summed k (item_totals x)) l.count ∙ sym (totals-append l.items (x ∷ []) totals);
  wrote = w ∙ ap (λ (p : List ℕ). p ++ item_text x) l.wrote ∙ append_assoc page (items_text l.items) (item_text x)
      ∙ ap (λ (p : List ℕ). page ++ p) (ap (λ (p : List ℕ). items_text l.items ++ p) (sym (append-nil (item_text x))) ∙ sym (text-append l.items (x ∷ [])));
}

pub lists_same : (old mid new : Pcap) (totals counted : Totals) (page put : List ℕ) (r : Result (Option PcapItem) PcapFault) → given r ≡ [] → PcapLists old mid totals counted page put → answer_of mid ≡ r → new ≡ next_of mid
    → PcapLists old new totals counted page put
lists_same old mid new totals counted page put r none l e a = record { items = l.items; gave = gave_same old mid new l.items r none l.gave e a; count = l.count; wrote = l.wrote }

-- ---- nothing more is given

pub at_end : (s new : Pcap) → answer_of s ≡ Ok None → new ≡ next_of s → IsPcapAt None new
at_end s new e a = subst (λ (x : Pcap). IsPcapAt None x) (sym a) (drains_all s e)

pub at_fault : (s new : Pcap) (at : ℕ) (reason : PcapReason) (found : Fault) → found ≡ record { at = at; why = pcap_why reason } → answer_of s ≡ stands_at at reason → new ≡ next_of s → IsPcapAt (Some found) new
at_fault s new at reason found is e a = (
  reason,
  sym (ap (λ (f : Fault). f.why) is),
  λ more. ap (λ (x : Pcap). rest_of x more) a ∙ sym (ap (λ (r : Result (Option PcapItem) PcapFault). behind (given r) (rest_of (next_of s) more)) e) ∙ sym (shows_given s more) ∙ shows_fault s more at reason e
      ∙ ap (λ (k : ℕ). file [] (Some (k, bad reason))) (sym (ap (λ (f : Fault). f.at) is)),
)
