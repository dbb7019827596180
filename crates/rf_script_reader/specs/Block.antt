-- The command block.
use Rattle.std.specs.Prelude.{ℕ, List, [], ◌∷◌, Option, None, option_map, Result, Ok, Err}
use Rattle.block_library.specs.declared.kind.BlockKind.{BlockKind}
use Rattle.block_library.specs.declared.kind.BlockKind.TheVariants.{Tx, Rx, Fifo, Split, Keep, Repeat, Replay, Switch, Sink}
use Rattle.graph_core.specs.declared.place.Side.TheVariants.{Into, Out}
use Rattle.graph_core.specs.Ports.{port_count}
use Rattle.rf_script_types.specs.declared.command.ScriptCommand.{ScriptCommand}
use Rattle.rf_script_types.specs.declared.command.ScriptCommand.TheVariants as command
use Rattle.rf_script_types.specs.declared.field.Field.{Field}
use Rattle.rf_script_types.specs.declared.field.Field.TheVariants as field
use Rattle.rf_script_types.specs.declared.table.TheConstants.{IN_EPID, OUT_EPID, KEEP, TIMES, SWITCH, PACKETS, TIME}
use Rattle.rf_script_types.specs.declared.words.KindWord.{KindWord}
use Rattle.rf_script_types.specs.declared.words.KindWord.TheVariants as word
use Rattle.rf_script_types.specs.Words.{kind_word_of}
use Rattle.rf_script_parts.specs.declared.wrong.Wrong.{Wrong}
use Rattle.rf_script_parts.specs.declared.scope.Scope.{Scope}
use Rattle.rf_script_parts.specs.Others.{only}
use Rattle.rf_script_parts.specs.Scope.{ends}
use Rattle.rf_script_parts.specs.Value.{◌>>=◌, ◌>>◌, typed, listed, required, number, optional}
use Rattle.serde_json.specs.Data.{Data}
use Rattle.serde_json.specs.Find.{as_str}

unfoldable pub kind_word : Data → Result KindWord Wrong
kind_word d = do
  value ← required field.Kind field.Kind d
  found ← typed field.Kind (option_map kind_word_of (as_str value))
  listed field.Kind found

-- the kind of a word, with its number if it has one
abbrev pub kind_of : KindWord → Data → Result BlockKind Wrong
kind_of word.Tx d = Ok Tx
kind_of word.Rx d = Ok Rx
kind_of word.Fifo d = Ok Fifo
kind_of word.Split d = Ok Split
kind_of word.Keep d = number KEEP d >>= λ n. Ok (Keep n)
kind_of word.Repeat d = number TIMES d >>= λ n. Ok (Repeat n)
kind_of word.Replay d = number TIMES d >>= λ n. Ok (Replay n)
kind_of word.Switch d = number SWITCH d >>= λ n. Ok (Switch n)
kind_of word.Sink d = Ok Sink

-- the fields of a block that has inputs, outputs and a number
abbrev pub numbered_fields : List Field
numbered_fields = field.Do ∷ field.Kind ∷ field.Count ∷ field.Ins ∷ field.Outs ∷ []

-- the fields of a block of the kind
abbrev pub block_fields : BlockKind → List Field
block_fields Tx = field.Do ∷ field.Kind ∷ field.Outs ∷ field.Packets ∷ field.Time ∷ []
block_fields Rx = field.Do ∷ field.Kind ∷ field.Ins ∷ []
block_fields Fifo = field.Do ∷ field.Kind ∷ field.Ins ∷ field.Outs ∷ []
block_fields Split = field.Do ∷ field.Kind ∷ field.Ins ∷ field.Outs ∷ []
block_fields (Keep n) = numbered_fields
block_fields (Repeat n) = numbered_fields
block_fields (Replay n) = numbered_fields
block_fields (Switch n) = numbered_fields
block_fields Sink = field.Do ∷ field.Kind ∷ field.Ins ∷ []

-- how many packets a tx gives
abbrev pub packets : BlockKind → Data → Result ℕ Wrong
packets Tx d = number PACKETS d
packets Rx d = Ok 0
packets Fifo d = Ok 0
packets Split d = Ok 0
packets (Keep n) d = Ok 0
packets (Repeat n) d = Ok 0
packets (Replay n) d = Ok 0
packets (Switch n) d = Ok 0
packets Sink d = Ok 0

-- the timestamp of a tx's first packet
abbrev pub time : BlockKind → Data → Result (Option ℕ) Wrong
time Tx d = optional TIME d
time Rx d = Ok None
time Fifo d = Ok None
time Split d = Ok None
time (Keep n) d = Ok None
time (Repeat n) d = Ok None
time (Replay n) d = Ok None
time (Switch n) d = Ok None
time Sink d = Ok None

unfoldable pub block : Scope → Data → Result ScriptCommand Wrong
block scope d = do
  word ← kind_word d
  kind ← kind_of word d
  ins ← ends scope IN_EPID (port_count Into kind) d
  outs ← ends scope OUT_EPID (port_count Out kind) d
  count ← packets kind d
  first ← time kind d
  only (block_fields kind) d
  Ok (command.Block kind ins outs count first)
