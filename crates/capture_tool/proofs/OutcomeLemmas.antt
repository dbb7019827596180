-- What show and check leave, by what reading the pieces promises.
use Rattle.std.proofs.Common.{◌≡◌, ℕ, List, [], ◌++◌, Option, None, Some, refl, sym, ap, subst, ◌∙◌, append-nil}
use Rattle.std.specs.Prelude.{IfSome}
use Rattle.rf_outside.specs.Bytes.{Adds, AddsPrefix}
use Rattle.rf_outside.specs.Pieces.{Tells}
use Rattle.chdr_stream.specs.Calls.{opened}
use Rattle.capture_tool.specs.declared.seen.Seen.{Seen}
use Rattle.capture_tool.specs.declared.seen.Fault.{Fault}
use Rattle.capture_tool.specs.Seen.{limit, fault_of, seen_of}
use Rattle.capture_tool.specs.Listing.{listed}
use Rattle.capture_tool.specs.Text.{check_text, checked}
use Rattle.capture_tool.specs.Outcome.{Told, status_of}
use Rattle.capture_tool.specs.Follows.{Listed, Checked, fault_after, listed_after, seen_after}
use Rattle.capture_tool.proofs.ReaderLemmas.{listing, checking, no_counts, no_text, listed_whole, fault_whole, seen_whole}

-- ---- show

text_is : (reader : Listed) (bytes : List ℕ) → reader ≡ listing opened 0 limit → listed_after reader bytes ≡ listed bytes
text_is reader bytes new = ap (λ (r : Listed). listed_after r bytes) new ∙ listed_whole bytes

pub show_told : (left begun now : Option (List ℕ)) (reader : Listed) (fault : Option Fault) (status : ℕ) → reader ≡ listing opened 0 limit → status ≡ status_of fault
    → IfSome left (λ bytes. Tells begun now (listed_after reader bytes) (fault_after reader.decoder reader.room bytes) fault) → IfSome left (λ bytes. Told listed bytes status begun now)
show_told None begun now reader fault status new is t = tt
show_told (Some bytes) begun now reader fault status new is t = record {
  written = subst (λ (l : List ℕ). Adds begun now l) (text_is reader bytes new) t.written;
  tells = is ∙ ap status_of (t.sees ∙ ap (λ (r : Listed). fault_after r.decoder r.room bytes) new ∙ fault_whole bytes);
}

pub show_prefix : (left begun now : Option (List ℕ)) (reader : Listed) → reader ≡ listing opened 0 limit → IfSome left (λ bytes. AddsPrefix begun now (listed_after reader bytes))
    → IfSome left (λ bytes. AddsPrefix begun now (listed bytes))
show_prefix None begun now reader new p = tt
show_prefix (Some bytes) begun now reader new p = subst (λ (l : List ℕ). AddsPrefix begun now l) (text_is reader bytes new) p

-- ---- check

adds_none : (old : Option (List ℕ)) → Adds old old []
adds_none None = tt
adds_none (Some xs) = sym (append-nil xs)

pub check_unwritten : (left begun now : Option (List ℕ)) → now ≡ begun → IfSome left (λ bytes. AddsPrefix begun now (checked bytes))
check_unwritten None begun now same = tt
check_unwritten (Some bytes) begun now same = (checked bytes, record { front = []; splits = refl; added = subst (λ (n : Option (List ℕ)). Adds begun n []) (sym same) (adds_none begun) })

seen_is : (reader : Checked) (seen : Seen) (bytes : List ℕ) → reader ≡ checking opened no_counts limit → seen ≡ seen_after reader bytes → seen ≡ seen_of bytes
seen_is reader seen bytes new sees = sees ∙ ap (λ (r : Checked). seen_after r bytes) new ∙ seen_whole bytes

line_is : (seen : Seen) (text bytes : List ℕ) → seen ≡ seen_of bytes → text ≡ check_text seen.counts seen.fault → text ≡ checked bytes
line_is seen text bytes is line = line ∙ ap (λ (s : Seen). check_text s.counts s.fault) is

pub check_prefix : (left begun mid now : Option (List ℕ)) (reader : Checked) (seen : Seen) (text : List ℕ) → reader ≡ checking opened no_counts limit → mid ≡ begun
    → IfSome left (λ bytes. Tells begun mid no_text (seen_after reader bytes) seen) → text ≡ check_text seen.counts seen.fault → AddsPrefix mid now text
    → IfSome left (λ bytes. AddsPrefix begun now (checked bytes))
check_prefix None begun mid now reader seen text new same t line p = tt
check_prefix (Some bytes) begun mid now reader seen text new same t line p =
    subst (λ (b : Option (List ℕ)). AddsPrefix b now (checked bytes)) same (subst (λ (l : List ℕ). AddsPrefix mid now l) (line_is seen text bytes (seen_is reader seen bytes new t.sees) line) p)

pub check_told : (left begun mid now : Option (List ℕ)) (reader : Checked) (seen : Seen) (text : List ℕ) (status : ℕ) → reader ≡ checking opened no_counts limit → mid ≡ begun
    → IfSome left (λ bytes. Tells begun mid no_text (seen_after reader bytes) seen) → text ≡ check_text seen.counts seen.fault → Adds mid now text → status ≡ status_of seen.fault
    → IfSome left (λ bytes. Told checked bytes status begun now)
check_told None begun mid now reader seen text status new same t line p is = tt
check_told (Some bytes) begun mid now reader seen text status new same t line p is =
    let sees : seen ≡ seen_of bytes = seen_is reader seen bytes new t.sees in
    record {
      written = subst (λ (b : Option (List ℕ)). Adds b now (checked bytes)) same (subst (λ (l : List ℕ). Adds mid now l) (line_is seen text bytes sees line) p);
      tells = is ∙ ap (λ (s : Seen). status_of s.fault) sees;
    }
