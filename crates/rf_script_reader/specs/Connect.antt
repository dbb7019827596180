-- The commands connect, set and commit.
use Rattle.std.specs.Prelude.{ℕ, ◌==◌, ◌+◌, ◌^◌, List, [], ◌∷◌, Bool, ◌&&◌, ◌||◌, nat_le, nat_lt, if◌then◌else◌, Option, None, Some, option_map, Result, Ok, Err}
use Rattle.graph_core.specs.declared.place.PortAt.{PortAt}
use Rattle.graph_core.specs.declared.place.Side.{Side}
use Rattle.graph_core.specs.declared.place.Prop.{Prop}
use Rattle.graph_core.specs.declared.place.Prop.TheVariants.{Rate, Item, Spp}
use Rattle.stream_endpoint.specs.declared.flow.Flow.{Flow}
use Rattle.stream_endpoint.specs.declared.flow.Policy.{Policy}
use Rattle.stream_endpoint.specs.declared.flow.Policy.TheVariants.{Auto}
use Rattle.rf_script_types.specs.declared.command.ScriptCommand.{ScriptCommand}
use Rattle.rf_script_types.specs.declared.command.ScriptCommand.TheVariants as command
use Rattle.rf_script_types.specs.declared.field.Field.{Field}
use Rattle.rf_script_types.specs.declared.field.Field.TheVariants as field
use Rattle.rf_script_types.specs.declared.fault.Why.TheVariants as why
use Rattle.rf_script_types.specs.declared.table.Number.{Number}
use Rattle.rf_script_types.specs.declared.table.TheConstants.{FROM_PORT, TO_PORT, CAP_BYTES, CAP_PACKETS, FREQ_BYTES, FREQ_PACKETS, MAX, START, SET_BLOCK, SET_PORT, RATE, ITEM, SPP}
use Rattle.rf_script_types.specs.Words.{policy_of, side_of, property_of}
use Rattle.rf_script_parts.specs.declared.wrong.Wrong.{Wrong}
use Rattle.rf_script_parts.specs.declared.pair.Pair.{Pair}
use Rattle.rf_script_parts.specs.Pair.{pair_field}
use Rattle.rf_script_parts.specs.Others.{only}
use Rattle.rf_script_parts.specs.Value.{◌>>=◌, ◌>>◌, bad, typed, listed, present, find, required, ranged, number, sized, element}
use Rattle.serde_json.specs.Data.{Data}
use Rattle.serde_json.specs.Find.{as_str}

abbrev pub policy_at : Option Data → Result Policy Wrong
policy_at None = Ok Auto
policy_at (Some d) = typed field.Policy (option_map policy_of (as_str d)) >>= listed field.Policy

-- the field `policy`
unfoldable pub policy : Data → Result Policy Wrong
policy d = policy_at (find field.Policy d)

-- the port of a field
unfoldable pub port_at : Number → Data → Result PortAt Wrong
port_at number d = pair_field number number d >>= λ two. Ok (record { block = two.first; port = two.second })

-- the numbers of a flow fit each other
abbrev pub is_valid : Flow → Bool
is_valid flow = nat_lt flow.cap_bytes (2 ^ 40) && nat_le (flow.freq_bytes + flow.max) flow.cap_bytes
    && nat_le flow.freq_packets flow.cap_packets && nat_le flow.cap_packets 1024
    && nat_le 1 flow.freq_bytes && nat_le 1 flow.freq_packets && nat_le 16 flow.max && nat_le flow.max 8192

abbrev pub valid_flow : Flow → Result Flow Wrong
valid_flow flow = if is_valid flow then Ok flow else Err (bad field.Freq why.Flow)

abbrev pub flow_of : Pair → Pair → ℕ → Flow
flow_of cap freq max = record { cap_bytes = cap.first; cap_packets = cap.second; freq_bytes = freq.first; freq_packets = freq.second; max = max }

abbrev pub connect_fields : List Field
connect_fields = field.Do ∷ field.From ∷ field.To ∷ field.Cap ∷ field.Freq ∷ field.Max ∷ field.Start ∷ field.Policy ∷ []

unfoldable pub connect : Data → Result ScriptCommand Wrong
connect d = do
  from ← port_at FROM_PORT d
  to ← port_at TO_PORT d
  cap ← pair_field CAP_BYTES CAP_PACKETS d
  freq ← pair_field FREQ_BYTES FREQ_PACKETS d
  max ← number MAX d
  start ← number START d
  rule ← policy d
  flow ← valid_flow (flow_of cap freq max)
  only connect_fields d
  Ok (command.Connect from to flow start rule)

unfoldable pub side : Data → Result Side Wrong
side d = do
  value ← required field.Side field.Side d
  found ← typed field.Side (option_map side_of (as_str value))
  listed field.Side found

unfoldable pub property : Data → Result Prop Wrong
property d = do
  value ← required field.Property field.Property d
  found ← typed field.Property (option_map property_of (as_str value))
  listed field.Property found

-- a sample has 4 or 8 bytes
abbrev pub whole_item : ℕ → Result ℕ Wrong
whole_item n = if n == 4 || n == 8 then Ok n else Err (bad field.Value why.Range)

abbrev pub property_value : Prop → Data → Result ℕ Wrong
property_value Rate d = number RATE d
property_value Item d = number ITEM d >>= whole_item
property_value Spp d = number SPP d

unfoldable pub set : Data → Result ScriptCommand Wrong
set d = do
  block ← number SET_BLOCK d
  at ← side d
  port ← number SET_PORT d
  prop ← property d
  value ← property_value prop d
  only (field.Do ∷ field.Block ∷ field.Side ∷ field.Port ∷ field.Property ∷ field.Value ∷ []) d
  Ok (command.Set (record { block = block; side = at; port = port; prop = prop }) value)

unfoldable pub commit : Data → Result ScriptCommand Wrong
commit d = do
  only (field.Do ∷ []) d
  Ok command.Commit
