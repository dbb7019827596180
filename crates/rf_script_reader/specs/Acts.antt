-- What a duplex does beside its run.
use Rattle.std.specs.Prelude.{ℕ, ◌==◌, ◌%◌, List, [], ◌∷◌, ◌++◌, Bool, false, ◌||◌, length, nat_lt, if◌then◌else◌, Option, None, Some, option_map, option_and_then, Result, Ok, Err}
use Rattle.chdr_words.specs.declared.epid.Epid.{Epid}
use Rattle.chdr_words.specs.declared.control.Control.{Control}
use Rattle.chdr_words.specs.declared.control.CtrlOp.{CtrlOp}
use Rattle.chdr_words.specs.declared.control.CtrlStatus.TheVariants.{Okay}
use Rattle.rf_script_types.specs.declared.act.Act.{Act}
use Rattle.rf_script_types.specs.declared.act.Act.TheVariants as act_is
use Rattle.rf_script_types.specs.declared.act.Due.{Due}
use Rattle.rf_script_types.specs.declared.field.Field.TheVariants as field
use Rattle.rf_script_types.specs.declared.fault.Why.TheVariants as why
use Rattle.rf_script_types.specs.declared.table.TheConstants.{ACT_STREAM, ACT_TAKEN, ACT_TO, ACT_PORT, ACT_ADDR, ACT_WORD, ACT_SLOT}
use Rattle.rf_script_types.specs.declared.words.ActWord.{ActWord}
use Rattle.rf_script_types.specs.declared.words.ActWord.TheVariants as word
use Rattle.rf_script_types.specs.Words.{act_word_of}
use Rattle.rf_script_parts.specs.declared.wrong.Wrong.{Wrong}
use Rattle.rf_script_reader.specs.declared.acts.Parts.{Parts}
use Rattle.rf_script_reader.specs.declared.acts.ActsSoFar.{ActsSoFar}
use Rattle.rf_script_parts.specs.declared.pair.Pair.{Pair}
use Rattle.rf_script_parts.specs.Words.{operation, check_words, word_list}
use Rattle.rf_script_parts.specs.Entries.{entries}
use Rattle.rf_script_parts.specs.Value.{◌>>=◌, ◌>>◌, bad, typed, listed, required, ranged, sized, element}
use Rattle.serde_json.specs.Data.{Data, Items}
use Rattle.serde_json.specs.Events.{items_len}
use Rattle.serde_json.specs.Find.{at, as_str, as_array}

-- the word that an act begins with
unfoldable pub act_word : Data → Result ActWord Wrong
act_word d = do
  found ← typed field.Acts (option_map act_word_of (option_and_then as_str (at 0 d)))
  listed field.Acts found

abbrev pub due_pair_at : Option Data → Result Pair Wrong
due_pair_at None = Err (bad field.Acts why.WrongType)
due_pair_at (Some d) = do
  sized field.Acts 2 d
  stream ← element field.Acts 0 d
  taken ← element field.Acts 1 d
  Ok (record { first = stream; second = taken })

-- [stream, taken], whose ranges aren't looked at yet
unfoldable pub due_pair : Data → Result Pair Wrong
due_pair d = due_pair_at (at 1 d)

unfoldable pub due_of : Pair → Result Due Wrong
due_of pair = do
  stream ← ranged ACT_STREAM pair.first
  taken ← ranged ACT_TAKEN pair.second
  Ok (record { stream = stream; taken = taken })

abbrev pub operation_in : Option Data → Result (Option CtrlOp) Wrong
operation_in None = Err (bad field.Acts why.WrongType)
operation_in (Some d) = operation field.Acts d

unfoldable pub operation_at : Data → Result (Option CtrlOp) Wrong
operation_at d = operation_in (at 4 d)

-- the parts of a control act by their types
unfoldable pub typed_parts : Data → Result Parts Wrong
typed_parts d = do
  sized field.Acts 7 d
  due ← due_pair d
  to ← element field.Acts 2 d
  port ← element field.Acts 3 d
  op ← operation_at d
  addr ← element field.Acts 5 d
  Ok (record { due = due; to = to; port = port; op = op; addr = addr })

-- the request of a control act: that of a control command with all enables, and its act's number
abbrev pub request_of : Epid → ℕ → ℕ → CtrlOp → ℕ → List ℕ → Control
request_of host number port op addr words = record {
  src = host;
  ack = false;
  time = None;
  seq = number;
  src_port = 0;
  dst_port = port;
  status = Okay;
  op = op;
  enables = 15;
  addr = addr;
  words = words;
}

abbrev pub epid : ℕ → Epid
epid n = record { 0 = n }

unfoldable pub act_of_parts : Epid → ℕ → Parts → List ℕ → Result Act Wrong
act_of_parts host number parts words = do
  due ← due_of parts.due
  to ← ranged ACT_TO parts.to
  port ← ranged ACT_PORT parts.port
  op ← listed field.Acts parts.op
  addr ← ranged ACT_ADDR parts.addr
  Ok (act_is.Control due (epid to) (request_of host number port op addr words))

abbrev pub act_words_in : Option Items → Result (List ℕ) Wrong
act_words_in None = Err (bad field.Acts why.WrongType)
act_words_in (Some ds) = check_words field.Acts ds >>= λ _. word_list ACT_WORD ds

abbrev pub act_words_at : Option Data → Result (List ℕ) Wrong
act_words_at None = Err (bad field.Acts why.WrongType)
act_words_at (Some d) = act_words_in (as_array d)

-- the words of a control act: all types before all ranges
unfoldable pub act_words : Data → Result (List ℕ) Wrong
act_words d = act_words_at (at 6 d)

-- ["control", due, to, port, op, addr, words]
unfoldable pub control_act : Epid → ℕ → Data → Result Act Wrong
control_act host number d = do
  found ← typed_parts d
  words ← act_words d
  act_of_parts host number found words

-- ["unload", due, port]
unfoldable pub unload_act : Data → Result Act Wrong
unload_act d = do
  sized field.Acts 3 d
  two ← due_pair d
  n ← element field.Acts 2 d
  due ← due_of two
  port ← ranged ACT_SLOT n
  Ok (act_is.Unload due port)

-- ["move", due, from, to], between two ports
unfoldable pub move_act : Data → Result Act Wrong
move_act d = do
  sized field.Acts 4 d
  two ← due_pair d
  x ← element field.Acts 2 d
  y ← element field.Acts 3 d
  due ← due_of two
  from ← ranged ACT_SLOT x
  to ← ranged ACT_SLOT y
  (if from == to then Err (bad field.Acts why.Range) else Ok (act_is.Move due from to))

abbrev pub act_of : Epid → ℕ → Data → ActWord → Result Act Wrong
act_of host number d word.Control = control_act host number d
act_of host number d word.Unload = unload_act d
act_of host number d word.Move = move_act d

-- an act, whose length goes by its word
unfoldable pub act : Epid → ℕ → Data → Result Act Wrong
act host number d = act_word d >>= act_of host number d

-- one more act; its number counts from 0, modulo 64
abbrev pub more_acts : ActsSoFar → Data → Result ActsSoFar Wrong
more_acts before d = act before.host (length before.list % 64) d >>= λ one. Ok (record before { list = before.list ++ one ∷ [] })

unfoldable pub act_list : Epid → Items → Result (List Act) Wrong
act_list host ds = if items_len ds == 0 || nat_lt 64 (items_len ds) then Err (bad field.Acts why.Range)
    else entries more_acts (record { host = host; list = [] }) ds >>= λ all. Ok all.list

abbrev pub acts_in : Epid → Option Items → Result (List Act) Wrong
acts_in host None = Err (bad field.Acts why.WrongType)
acts_in host (Some ds) = act_list host ds

-- the field `acts`
unfoldable pub acts : Epid → Data → Result (List Act) Wrong
acts host d = required field.Acts field.Acts d >>= λ value. acts_in host (as_array value)
