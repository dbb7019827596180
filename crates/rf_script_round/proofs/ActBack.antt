-- What is written of an act is read back.
use Rattle.std.proofs.Common.{◌≡◌, ◌≢◌, ℕ, ◌%◌, ◌≤◌, ◌==◌, ◌||◌, List, [], ◌∷◌, ◌++◌, length, map, Bool, false, Some, refl, sym, ap, ◌∙◌, append_assoc, append-nil, arith}
use Rattle.std.proofs.lemmas.Bool.Decides.{nat_tests}
use Rattle.std.specs.Prelude.{Ok, nat_lt}
use Rattle.chdr_words.specs.declared.control.Control.{Control}
use Rattle.chdr_words.specs.declared.epid.Epid.{Epid}
use Rattle.net_faults.specs.declared.fault.Fault.{Fault}
use Rattle.rf_script_types.specs.declared.act.Act.{Act}
use Rattle.rf_script_types.specs.declared.act.Act.TheVariants as act_is
use Rattle.rf_script_types.specs.declared.act.Due.{Due}
use Rattle.rf_script_types.specs.declared.command.ScriptCommand.TheVariants as command
use Rattle.rf_script_types.specs.declared.field.Field.TheVariants as field
use Rattle.rf_script_types.specs.declared.table.TheConstants.{ACT_STREAM, ACT_TAKEN, ACT_TO, ACT_PORT, ACT_ADDR, ACT_WORD, ACT_SLOT, HOST, SEED}
use Rattle.rf_script_types.specs.CommandText.{duplex_text}
use Rattle.rf_script_types.specs.Fits.{IsIn, FitsDue, FitsRequest, FitsAct, FitsActs, FitsLose, FitsAnyFault}
use Rattle.rf_script_types.specs.Text.{list, act_text, control_text, unload_text, move_text}
use Rattle.rf_script_types.specs.Words.{act_word_of}
use Rattle.rf_script_parts.specs.Others.{only}
use Rattle.rf_script_parts.specs.Entries.{entries}
use Rattle.rf_script_parts.specs.Value.{find, sized, element}
use Rattle.rf_script_reader.specs.Acts.{act, act_word, due_pair, due_of, operation_at, typed_parts, act_of_parts, act_words, control_act, unload_act, move_act, more_acts, act_list, acts, request_of}
use Rattle.rf_script_reader.specs.Run.{duplex}
use Rattle.serde_json.specs.Data.{Data}
use Rattle.serde_json.specs.View.{items_of}
use Rattle.rf_script_round.proofs.BackLemmas.{within-in, number-back, number_field-back, flag-back, items_len-list}
use Rattle.rf_script_round.proofs.ListBack.{any_lose-back, check_words-back, word_list-back}
use Rattle.rf_script_round.proofs.CommandBack.{op-back}

due_of-back : (due : Due) → FitsDue due → due_of (record { first = due.stream; second = due.taken }) ≡ Ok due
unfolding due_of
due_of-back due h = rw (within-in ACT_STREAM due.stream h.0, within-in ACT_TAKEN due.taken h.1)

same_request : (host : Epid) (number : ℕ) (r : Control) → FitsRequest host number r → request_of host number r.dst_port r.op r.addr r.words ≡ r
same_request host number r h = rw (← h.source, ← h.ack, ← h.time, ← h.seq, ← h.src_port, ← h.status, ← h.enables)

control_act-back : (host : Epid) (number : ℕ) (due : Due) (to : Epid) (r : Control) → FitsDue due → IsIn ACT_TO to.0 → FitsRequest host number r
    → act host number (control_text due to r) ≡ Ok (act_is.Control due to r)
unfolding act act_word act_word_of control_act typed_parts due_pair operation_at act_words act_of_parts sized element
control_act-back host number due to r h k f =
    rw (
      op-back r.op f.op,
      check_words-back field.Acts r.words,
      word_list-back ACT_WORD r.words (omega arith) f.words,
      due_of-back due h,
      within-in ACT_TO to.0 k,
      within-in ACT_PORT r.dst_port f.dst_port,
      within-in ACT_ADDR r.addr f.addr,
    ) (ap (λ q. Ok (act_is.Control due to q)) (same_request host number r f))

unload_act-back : (host : Epid) (number : ℕ) (due : Due) (port : ℕ) → FitsDue due → IsIn ACT_SLOT port → act host number (unload_text due port) ≡ Ok (act_is.Unload due port)
unfolding act act_word act_word_of unload_act due_pair sized element
unload_act-back host number due port h k = rw (due_of-back due h, within-in ACT_SLOT port k)

differ : (a b : ℕ) → a ≢ b → (a == b) ≡ false
differ a b h = grind (arith, nat_tests)

move_act-back : (host : Epid) (number : ℕ) (due : Due) (from to : ℕ) → FitsDue due → IsIn ACT_SLOT from → IsIn ACT_SLOT to → from ≢ to
    → act host number (move_text due from to) ≡ Ok (act_is.Move due from to)
unfolding act act_word act_word_of move_act due_pair sized element
move_act-back host number due from to h k l apart = rw (due_of-back due h, within-in ACT_SLOT from k, within-in ACT_SLOT to l, differ from to apart)

act-back : (host : Epid) (number : ℕ) (a : Act) → FitsAct host number a → act host number (act_text a) ≡ Ok a
act-back host number (act_is.Control due to r) h = control_act-back host number due to r h.0 h.1 h.2
act-back host number (act_is.Unload due port) h = unload_act-back host number due port h.0 h.1
act-back host number (act_is.Move due from to) h = move_act-back host number due from to h.0 h.1 h.2 h.3

acts_from : (host : Epid) (done acts : List Act) → FitsActs host done acts
    → entries more_acts (record { host = host; list = done }) (items_of (map act_text acts)) ≡ Ok (record { host = host; list = done ++ acts })
acts_from host done [] h = ap (λ l. Ok (record { host = host; list = l })) (sym (append-nil done))
acts_from host done (a ∷ acts) h = rw (act-back host (length done % 64) a h.0)
    (acts_from host (done ++ a ∷ []) acts h.1 ∙ ap (λ l. Ok (record { host = host; list = l })) (append_assoc done (a ∷ []) acts))

within_bounds : (n : ℕ) → 1 ≤ n → n ≤ 64 → ((n == 0) || nat_lt 64 n) ≡ false
within_bounds n h k = grind (arith, nat_tests)

acts-back : (host : Epid) (d : Data) (list_of : List Act) → find field.Acts d ≡ Some (list act_text list_of) → 1 ≤ length list_of → length list_of ≤ 64
    → FitsActs host [] list_of → acts host d ≡ Ok list_of
unfolding acts act_list
acts-back host d list_of e low high h = rw (e, items_len-list act_text list_of, within_bounds (length list_of) low high, acts_from host [] list_of h)

pub duplex-back : (version : ℕ) (host : Epid) (list_of : List Act) (seed : ℕ) (peak : Bool) (lose : List Fault) → IsIn HOST host.0 → 1 ≤ length list_of → length list_of ≤ 64
    → FitsActs host [] list_of → IsIn SEED seed → FitsLose version FitsAnyFault lose
    → duplex version (duplex_text host list_of seed peak lose) ≡ Ok (command.Duplex host list_of seed peak lose)
unfolding duplex only
duplex-back version host list_of seed peak lose h low high a s k = let d = duplex_text host list_of seed peak lose in
    rw (number_field-back HOST d host refl h, acts-back host d list_of refl low high a, number-back SEED d seed refl s, flag-back field.Peak false peak d refl, any_lose-back version d lose refl k)
