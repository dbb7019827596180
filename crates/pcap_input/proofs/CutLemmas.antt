-- The items that lists of calls give, whatever pieces the bytes came in.
use Rattle.std.proofs.Common.{◌≡◌, ℕ, List, [], ◌∷◌, ◌++◌, Option, None, Some, Result, Ok, Err, refl, sym, ap, subst, ◌∙◌, append_assoc}
use Rattle.std.proofs.lemmas.List.{append-nil}
use Rattle.pcap_input.specs.declared.item.PcapItem.{PcapItem}
use Rattle.pcap_input.specs.declared.item.PcapFault.{PcapFault}
use Rattle.pcap_input.specs.declared.item.PcapFault.TheVariants.{Bad, Memory}
use Rattle.pcap_input.specs.declared.item.PcapReason.{PcapReason}
use Rattle.pcap_input.specs.File.{File, behind, file_of}
use Rattle.pcap_input.specs.Reader.{Pcap, answer_at, answer_of, begun, fed_with, front, next_of, opened}
use Rattle.pcap_input.specs.Rest.{given, rest_of}
use Rattle.pcap_input.specs.Calls.{Call, feeds, asks, with_call, given_with, fed_with_call, with_calls, given_from, fed_by, GivesNone, KeepsShown, IsSameCut}
use Rattle.pcap_input.proofs.RestLemmas.{shown, shows_all, shows_fed, shows_given, shows_fault, shows_cut, drains_all}

behind-behind : (a b : List PcapItem) (f : File) → behind a (behind b f) ≡ behind (a ++ b) f
behind-behind a b f = ap (λ (items : List PcapItem). shown items f.fault) (sym (append_assoc a b f.items))

call_shown : (s : Pcap) (call : Call) (more : List ℕ) → rest_of s (fed_with_call call ++ more) ≡ behind (given_with s call) (rest_of (with_call s call) more)
call_shown s (feeds piece) more = sym (shows_fed s piece more)
call_shown s asks more = shows_given s more

calls_shown : (calls : List Call) (s : Pcap) (more : List ℕ) → rest_of s (fed_by calls ++ more) ≡ behind (given_from s calls) (rest_of (with_calls s calls) more)
calls_shown [] s more = refl
calls_shown (call ∷ calls) s more =
    ap (rest_of s) (append_assoc (fed_with_call call) (fed_by calls) more) ∙ call_shown s call (fed_by calls ++ more) ∙ ap (behind (given_with s call)) (calls_shown calls (with_call s call) more)
    ∙ behind-behind (given_with s call) (given_from (with_call s call) calls) (rest_of (with_calls (with_call s call) calls) more)

pub keeps_shown : KeepsShown
keeps_shown port calls more = sym (shows_all port (fed_by calls ++ more)) ∙ calls_shown calls (opened port) more

-- ---- nothing more is given

idle_items : (s : Pcap) (r : Result (Option PcapItem) PcapFault) → answer_of s ≡ r → GivesNone r → (rest_of s []).items ≡ []
idle_items s (Ok None) e none =
    ap (λ (f : File). f.items) (shows_given s []) ∙ ap (λ (r : Result (Option PcapItem) PcapFault). given r ++ (rest_of (next_of s) []).items) e
    ∙ ap (λ (f : File). f.items) (shows_cut (next_of s) (drains_all s e))
idle_items s (Ok (Some item)) e none = absurd none
idle_items s (Err (Bad at reason)) e none = ap (λ (f : File). f.items) (shows_fault s [] at reason e)
idle_items s (Err Memory) e none = absurd (no_memory (begun s) (front (begun s)) e)
  where
    no_memory : (t : Pcap) (r : Result (Option ℕ) PcapReason) → answer_at t r ≡ Err Memory → ⊥
    no_memory t (Ok None) e = cc
    no_memory t (Ok (Some size)) e = cc
    no_memory t (Err reason) e = cc

idle_given : (port : ℕ) (calls : List Call) → GivesNone (answer_of (with_calls (opened port) calls)) → (file_of port (fed_by calls)).items ≡ given_from (opened port) calls
idle_given port calls none =
    let s = with_calls (opened port) calls in
    ap (λ (b : List ℕ). (file_of port b).items) (sym (append-nil (fed_by calls))) ∙ ap (λ (f : File). f.items) (keeps_shown port calls [])
    ∙ ap (λ (items : List PcapItem). given_from (opened port) calls ++ items) (idle_items s (answer_of s) refl none) ∙ append-nil (given_from (opened port) calls)

idle_fault : (port : ℕ) (calls : List Call) → (file_of port (fed_by calls)).fault ≡ (rest_of (with_calls (opened port) calls) []).fault
idle_fault port calls = ap (λ (b : List ℕ). (file_of port b).fault) (sym (append-nil (fed_by calls))) ∙ ap (λ (f : File). f.fault) (keeps_shown port calls [])

pub same_cut : IsSameCut
same_cut port calls others same none no_other = (
  sym (idle_given port calls none) ∙ ap (λ (b : List ℕ). (file_of port b).items) same ∙ idle_given port others no_other,
  sym (idle_fault port calls) ∙ ap (λ (b : List ℕ). (file_of port b).fault) same ∙ idle_fault port others,
)
