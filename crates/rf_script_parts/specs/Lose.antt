-- The packets that a command loses.
use Rattle.std.specs.Prelude.{ℕ, List, [], ◌∷◌, ◌++◌, Bool, true, false, nat_lt, if◌then◌else◌, Option, None, Some, option_map, option_and_then, Result, Ok, Err}
use Rattle.rf_script_types.specs.declared.field.Field.TheVariants as field
use Rattle.rf_script_types.specs.declared.fault.Why.TheVariants as why
use Rattle.rf_script_types.specs.declared.table.TheConstants.{LOSE_STREAM, LOSE_PLACE}
use Rattle.rf_script_types.specs.declared.words.Sort.{Sort}
use Rattle.rf_script_types.specs.declared.words.Sort.TheVariants as sort
use Rattle.rf_script_types.specs.Limits.{lose_limit}
use Rattle.rf_script_types.specs.Words.{sort_of}
use Rattle.net_faults.specs.declared.fault.Fault.{Fault}
use Rattle.net_faults.specs.declared.fault.Fault.TheVariants.{Samples, Status, Command, Request, Answer}
use Rattle.rf_script_parts.specs.declared.wrong.Wrong.{Wrong}
use Rattle.rf_script_parts.specs.declared.lose.Losses.{Losses}
use Rattle.rf_script_parts.specs.declared.lose.Sorts.{Sorts}
use Rattle.rf_script_parts.specs.declared.lose.Sorts.TheVariants.{Stream, Plain, Any}
use Rattle.rf_script_parts.specs.Entries.{entries}
use Rattle.rf_script_parts.specs.Value.{◌>>=◌, ◌>>◌, bad, typed, listed, find, ranged, sized, element}
use Rattle.serde_json.specs.Data.{Data, Items}
use Rattle.serde_json.specs.Events.{items_len}
use Rattle.serde_json.specs.Find.{at, as_str, as_array}

-- the sort that an entry begins with: none where the word isn't listed
abbrev pub head_of : Data → Result (Option Sort) Wrong
head_of d = typed field.Lose (option_map sort_of (option_and_then as_str (at 0 d)))

-- packets of streams
abbrev pub stream_fault : Option Sort → ℕ → ℕ → Option Fault
stream_fault None s k = None
stream_fault (Some sort.Samples) s k = Some (Samples s k)
stream_fault (Some sort.Status) s k = Some (Status s k)
stream_fault (Some sort.Command) s k = Some (Command s k)
stream_fault (Some sort.Request) s k = None
stream_fault (Some sort.Answer) s k = None

-- requests and answers
abbrev pub plain_fault : Option Sort → ℕ → Option Fault
plain_fault None k = None
plain_fault (Some sort.Samples) k = None
plain_fault (Some sort.Status) k = None
plain_fault (Some sort.Command) k = None
plain_fault (Some sort.Request) k = Some (Request k)
plain_fault (Some sort.Answer) k = Some (Answer k)

-- ["data", stream, place]
unfoldable pub stream_entry : Data → Result Fault Wrong
stream_entry d = do
  sized field.Lose 3 d
  sort ← head_of d
  s ← element field.Lose 1 d
  k ← element field.Lose 2 d
  stream ← ranged LOSE_STREAM s
  place ← ranged LOSE_PLACE k
  listed field.Lose (stream_fault sort stream place)

-- ["request", place]
unfoldable pub plain_entry : Data → Result Fault Wrong
plain_entry d = do
  sized field.Lose 2 d
  sort ← head_of d
  k ← element field.Lose 1 d
  place ← ranged LOSE_PLACE k
  listed field.Lose (plain_fault sort place)

abbrev pub is_stream_sort : Sort → Bool
is_stream_sort sort.Samples = true
is_stream_sort sort.Status = true
is_stream_sort sort.Command = true
is_stream_sort sort.Request = false
is_stream_sort sort.Answer = false

-- an entry whose length goes by its word
unfoldable pub any_entry : Data → Result Fault Wrong
any_entry d = do
  found ← head_of d
  sort ← listed field.Lose found
  if is_stream_sort sort then stream_entry d else plain_entry d

abbrev pub fault_entry : Sorts → Data → Result Fault Wrong
fault_entry Stream d = stream_entry d
fault_entry Plain d = plain_entry d
fault_entry Any d = any_entry d

-- one more entry
abbrev pub losses : Losses → Data → Result Losses Wrong
losses before d = fault_entry before.sorts d >>= λ fault. Ok (record before { list = before.list ++ fault ∷ [] })

-- the entries of a list of at most this many
unfoldable pub lose_list : Sorts → ℕ → Items → Result (List Fault) Wrong
lose_list sorts limit ds = if nat_lt limit (items_len ds) then Err (bad field.Lose why.Range)
    else entries losses (record { sorts = sorts; list = [] }) ds >>= λ all. Ok all.list

abbrev pub lose_value : Sorts → ℕ → Option Items → Result (List Fault) Wrong
lose_value sorts limit None = Err (bad field.Lose why.WrongType)
lose_value sorts limit (Some ds) = lose_list sorts limit ds

abbrev pub lose_at : ℕ → Sorts → Option Data → Result (List Fault) Wrong
lose_at version sorts None = Ok []
lose_at version sorts (Some d) = lose_value sorts (lose_limit version) (as_array d)

-- the field `lose`, the empty list where it isn't there
unfoldable pub lose : ℕ → Sorts → Data → Result (List Fault) Wrong
lose version sorts d = lose_at version sorts (find field.Lose d)
