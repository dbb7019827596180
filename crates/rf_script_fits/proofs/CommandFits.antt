-- The commands, as they are read, fit.
use Rattle.std.proofs.Common.{◌≡◌, ◌≢◌, ℕ, ◌+◌, ◌≤◌, ◌<◌, ◌^◌, ◌==◌, ◌&&◌, ◌||◌, List, [], ◌∷◌, Bool, true, false, Option, None, Some, refl, arith, inl, inr}
use Rattle.std.proofs.lemmas.Bool.{and_parts, cases_eq}
use Rattle.std.proofs.lemmas.Bool.Decides.{nat_tests}
use Rattle.std.specs.Prelude.{◌⊎◌, Result, Ok, Err, IfSome, nat_le, nat_lt}
use Rattle.chdr_words.specs.declared.control.CtrlOp.{CtrlOp}
use Rattle.graph_core.specs.declared.place.PortAt.{PortAt}
use Rattle.graph_core.specs.declared.place.Prop.{Prop}
use Rattle.graph_core.specs.declared.place.Prop.TheVariants.{Rate, Item, Spp}
use Rattle.stream_endpoint.specs.declared.flow.Flow.{Flow}
use Rattle.stream_endpoint.specs.Flow.{IsValid}
use Rattle.rf_script_types.specs.declared.command.ScriptCommand.TheVariants as command
use Rattle.rf_script_types.specs.declared.field.Field.TheVariants as field
use Rattle.rf_script_types.specs.declared.fault.Why.TheVariants as why
use Rattle.rf_script_types.specs.declared.table.Number.{Number}
use Rattle.rf_script_types.specs.declared.table.TheConstants.{ROOM, HOST, ROUTE_FROM, TO, PORT, ADDR, WORD, ENABLES, SLOT, FROM_PORT, TO_PORT, CAP_BYTES, CAP_PACKETS, FREQ_BYTES, FREQ_PACKETS, MAX, START, SET_BLOCK, SET_PORT, RATE, ITEM, SPP, SEED, CUT}
use Rattle.rf_script_types.specs.Fits.{IsIn, Each, FitsLink, FitsLose, FitsWords, FitsValue, FitsCommand, IsNamed}
use Rattle.rf_script_types.specs.Limits.{node_limit}
use Rattle.rf_script_parts.specs.declared.pair.Pair.{Pair}
use Rattle.rf_script_parts.specs.declared.scope.ReadCommand.{ReadCommand}
use Rattle.rf_script_parts.specs.declared.scope.Scope.{Scope}
use Rattle.rf_script_parts.specs.declared.lose.Sorts.TheVariants.{Stream, Plain, Any}
use Rattle.rf_script_parts.specs.Lose.{lose}
use Rattle.rf_script_parts.specs.Net.{node_field, link_field, net}
use Rattle.rf_script_parts.specs.Others.{only}
use Rattle.rf_script_parts.specs.Pair.{pair_field}
use Rattle.rf_script_parts.specs.Scope.{endpoint_field, number_field}
use Rattle.rf_script_parts.specs.Value.{bad, listed, find, required, number, flag}
use Rattle.rf_script_parts.specs.Words.{operation, check_words, word_list}
use Rattle.rf_script_reader.specs.Acts.{acts}
use Rattle.rf_script_reader.specs.Connect.{policy, port_at, is_valid, valid_flow, flow_of, connect_fields, connect, side, property, whole_item, property_value, set, commit}
use Rattle.rf_script_reader.specs.Control.{operation_field, words_in, words_at, words, discover, route, control, unload}
use Rattle.rf_script_reader.specs.Run.{run, twin, duplex}
use Rattle.serde_json.specs.Data.{Data, Items}
use Rattle.serde_json.specs.Find.{as_array}
use Rattle.rf_script_fits.proofs.Gives.{Gives, good, faulty, bind, pass, after, passed, unstopped}
use Rattle.rf_script_fits.proofs.ValueFits.{listed-fits, number-fits, pair_field-fits, AreIn}
use Rattle.rf_script_fits.proofs.EndFits.{NamesFit, EndIn, endpoint_field-fits, number_field-fits}
use Rattle.rf_script_fits.proofs.EntryFits.{NodesFit, node_field-fits, link_field-fits, lose-fits, FitsSorts, IfNamed, operation-fits, word_list-fits}
use Rattle.rf_script_fits.proofs.ActFits.{ActsFit, acts-fit}

-- what is read fits, and so do the names that come with it
abbrev pub ReadFits : ℕ → ReadCommand → Type 0
ReadFits version read = FitsCommand version read.command × IfSome read.names NamesFit

pub net-fits : (version : ℕ) (d : Data) → Gives (net version d) (ReadFits version)
unfolding net
net-fits version d = let P = ReadFits version in
    bind (node_field version d) _ NodesFit P (node_field-fits version d) λ made m.
    bind (link_field d) _ (Each FitsLink) P (link_field-fits d) λ list l.
    bind (number ROOM d) _ (IsIn ROOM) P (number-fits ROOM d (omega arith, omega arith)) λ room r.
    pass (flag field.Routed true d) _ P λ routed.
    after (only (field.Do ∷ field.Nodes ∷ field.Links ∷ field.Room ∷ field.Routed ∷ []) d) _ P
    (good P (record { command = command.Net made.list list room routed (node_limit version); names = Some made.names })
    (record { some = m.0; each_node = m.1; each_link = l; room_is_in = r; limit_is = refl }, m.2))

pub discover-fits : (scope : Scope) (d : Data) → NamesFit scope.names → Gives (discover scope d) (FitsCommand scope.version)
unfolding discover
discover-fits scope d names = let P = FitsCommand scope.version in
    bind (endpoint_field scope HOST d) _ (EndIn HOST) P (endpoint_field-fits scope HOST d names (refl, refl)) λ host h.
    bind (lose scope.version Plain d) _ (FitsLose scope.version (FitsSorts Plain)) P (lose-fits scope.version Plain d) λ faults f.
    after (only (field.Do ∷ field.Host ∷ field.Lose ∷ []) d) _ P (good P (command.Discover host faults) (h, f))

apart : (a b : ℕ) → (a == b) ≡ false → a ≢ b
apart a b e same = grind (arith, nat_tests)

pub route-fits : (scope : Scope) (d : Data) → NamesFit scope.names → Gives (route scope d) (FitsCommand scope.version)
unfolding route
route-fits scope d names = let P = FitsCommand scope.version in
    bind (endpoint_field scope HOST d) _ (EndIn HOST) P (endpoint_field-fits scope HOST d names (refl, refl)) λ host h.
    bind (endpoint_field scope ROUTE_FROM d) _ (EndIn ROUTE_FROM) P (endpoint_field-fits scope ROUTE_FROM d names (refl, refl)) λ from i.
    bind (endpoint_field scope TO d) _ (EndIn TO) P (endpoint_field-fits scope TO d names (refl, refl)) λ to j.
    unstopped (to.0 == from.0) _ (bad field.To why.Range) P λ e.
    bind (lose scope.version Plain d) _ (FitsLose scope.version (FitsSorts Plain)) P (lose-fits scope.version Plain d) λ faults f.
    after (only (field.Do ∷ field.Host ∷ field.From ∷ field.To ∷ field.Lose ∷ []) d) _ P (good P (command.Route host from to faults) (h, i, j, apart to.0 from.0 e, f))

operation_field-fits : (d : Data) → Gives (operation_field d) IsNamed
unfolding operation_field
operation_field-fits d = pass (required field.Op field.Op d) _ IsNamed λ v. bind (operation field.Op v) _ IfNamed IsNamed (operation-fits field.Op v)
    λ found h. listed-fits field.Op found IsNamed h

words_in-fit : (o : Option Items) → Gives (words_in o) (FitsWords WORD)
words_in-fit None = faulty (FitsWords WORD) _
words_in-fit (Some ds) = pass (check_words field.Words ds) _ (FitsWords WORD) (λ _. word_list-fits WORD ds)

words_at-fit : (o : Option Data) → Gives (words_at o) (FitsWords WORD)
words_at-fit None = good (FitsWords WORD) [] (omega arith, tt)
words_at-fit (Some d) = words_in-fit (as_array d)

words-fit : (d : Data) → Gives (words d) (FitsWords WORD)
unfolding words
words-fit d = words_at-fit (find field.Words d)

pub control-fits : (scope : Scope) (d : Data) → NamesFit scope.names → Gives (control scope d) (FitsCommand scope.version)
unfolding control
control-fits scope d names = let P = FitsCommand scope.version in
    bind (endpoint_field scope HOST d) _ (EndIn HOST) P (endpoint_field-fits scope HOST d names (refl, refl)) λ host h.
    bind (endpoint_field scope TO d) _ (EndIn TO) P (endpoint_field-fits scope TO d names (refl, refl)) λ to t.
    bind (number PORT d) _ (IsIn PORT) P (number-fits PORT d tt) λ port p.
    bind (operation_field d) _ IsNamed P (operation_field-fits d) λ op o.
    bind (number ADDR d) _ (IsIn ADDR) P (number-fits ADDR d tt) λ addr a.
    bind (words d) _ (FitsWords WORD) P (words-fit d) λ list w.
    bind (number ENABLES d) _ (IsIn ENABLES) P (number-fits ENABLES d (omega arith, omega arith)) λ enables e.
    bind (lose scope.version Plain d) _ (FitsLose scope.version (FitsSorts Plain)) P (lose-fits scope.version Plain d) λ faults f.
    after (only (field.Do ∷ field.Host ∷ field.To ∷ field.Port ∷ field.Op ∷ field.Addr ∷ field.Words ∷ field.Enables ∷ field.Lose ∷ []) d) _ P
    (good P (command.Control host to port op addr list enables faults)
    (record { host_is_in = h; to_is_in = t; port_is_in = p; op_is_named = o; addr_is_in = a; words_fit = w; enables_are_in = e; lose_fits = f }))

pub unload-fits : (version : ℕ) (d : Data) → Gives (unload d) (FitsCommand version)
unfolding unload
unload-fits version d = let P = FitsCommand version in
    bind (number SLOT d) _ (IsIn SLOT) P (number-fits SLOT d tt) λ port p. after (only (field.Do ∷ field.Port ∷ []) d) _ P (good P (command.Unload port) p)

-- ---- connect and set

abbrev PortIn : Number → PortAt → Type 0
PortIn range at = IsIn range at.block × IsIn range at.port

port_at-fits : (range : Number) (d : Data) → IfSome range.default (IsIn range) → Gives (port_at range d) (PortIn range)
unfolding port_at
port_at-fits range d h = bind (pair_field range range d) _ (AreIn range range) (PortIn range) (pair_field-fits range range d h h)
    (λ two k. good (PortIn range) (record { block = two.first; port = two.second }) k)

valid-is : (flow : Flow) → is_valid flow ≡ true → IsValid flow
valid-is flow h = record {
  some_bytes = grind (arith, nat_tests);
  enough_bytes = grind (arith, nat_tests);
  few_bytes = grind (arith, nat_tests);
  some_packets = grind (arith, nat_tests);
  enough_packets = grind (arith, nat_tests);
  few_packets = grind (arith, nat_tests);
  not_short = grind (arith, nat_tests);
  not_long = grind (arith, nat_tests);
}

valid_flow-fits : (flow : Flow) → Gives (valid_flow flow) IsValid
valid_flow-fits flow = passed (is_valid flow) (Ok flow) (bad field.Freq why.Flow) IsValid (λ e. good IsValid flow (valid-is flow e))

pub connect-fits : (version : ℕ) (d : Data) → Gives (connect d) (FitsCommand version)
unfolding connect
connect-fits version d = let P = FitsCommand version in
    bind (port_at FROM_PORT d) _ (PortIn FROM_PORT) P (port_at-fits FROM_PORT d tt) λ from f.
    bind (port_at TO_PORT d) _ (PortIn TO_PORT) P (port_at-fits TO_PORT d tt) λ to t.
    pass (pair_field CAP_BYTES CAP_PACKETS d) _ P λ cap. pass (pair_field FREQ_BYTES FREQ_PACKETS d) _ P λ freq. pass (number MAX d) _ P λ max.
    bind (number START d) _ (IsIn START) P (number-fits START d (omega arith, omega arith)) λ start s.
    pass (policy d) _ P λ rule.
    bind (valid_flow (flow_of cap freq max)) _ IsValid P (valid_flow-fits (flow_of cap freq max)) λ flow v.
    after (only connect_fields d) _ P (good P (command.Connect from to flow start rule) (f.0, f.1, t.0, t.1, v, s))

item-is : (n : ℕ) → (n == 4 || n == 8) ≡ true → (n ≡ 4) ⊎ (n ≡ 8)
item-is n h = grind (arith, nat_tests)

whole_item-fits : (n : ℕ) → Gives (whole_item n) (FitsValue Item)
whole_item-fits n = passed (n == 4 || n == 8) (Ok n) (bad field.Value why.Range) (FitsValue Item) (λ e. good (FitsValue Item) n (item-is n e))

property_value-fits : (p : Prop) (d : Data) → Gives (property_value p d) (FitsValue p)
property_value-fits Rate d = number-fits RATE d tt
property_value-fits Item d = pass (number ITEM d) whole_item (FitsValue Item) whole_item-fits
property_value-fits Spp d = number-fits SPP d tt

pub set-fits : (version : ℕ) (d : Data) → Gives (set d) (FitsCommand version)
unfolding set
set-fits version d = let P = FitsCommand version in
    bind (number SET_BLOCK d) _ (IsIn SET_BLOCK) P (number-fits SET_BLOCK d tt) λ block b. pass (side d) _ P λ at.
    bind (number SET_PORT d) _ (IsIn SET_PORT) P (number-fits SET_PORT d tt) λ port p. pass (property d) _ P λ prop.
    bind (property_value prop d) _ (FitsValue prop) P (property_value-fits prop d) λ value v.
    after (only (field.Do ∷ field.Block ∷ field.Side ∷ field.Port ∷ field.Property ∷ field.Value ∷ []) d) _ P
    (good P (command.Set (record { block = block; side = at; port = port; prop = prop }) value) (b, p, v))

pub commit-fits : (version : ℕ) (d : Data) → Gives (commit d) (FitsCommand version)
unfolding commit
commit-fits version d = after (only (field.Do ∷ []) d) _ (FitsCommand version) (good (FitsCommand version) command.Commit tt)

-- ---- run, twin and duplex

pub run-fits : (version : ℕ) (d : Data) → Gives (run version d) (FitsCommand version)
unfolding run
run-fits version d = let P = FitsCommand version in
    bind (number SEED d) _ (IsIn SEED) P (number-fits SEED d (omega arith, omega arith)) λ seed s.
    pass (flag field.Trace false d) _ P λ trace. pass (flag field.Peak false d) _ P λ peak.
    bind (lose version Stream d) _ (FitsLose version (FitsSorts Stream)) P (lose-fits version Stream d) λ faults f.
    after (only (field.Do ∷ field.Seed ∷ field.Trace ∷ field.Peak ∷ field.Lose ∷ []) d) _ P (good P (command.Run seed trace peak faults) (s, f))

pub twin-fits : (version : ℕ) (d : Data) → version ≡ 2 → Gives (twin version d) (FitsCommand version)
unfolding twin
twin-fits version d two = let P = FitsCommand version in
    bind (number CUT d) _ (IsIn CUT) P (number-fits CUT d tt) λ cut c. pass (flag field.Peak false d) _ P λ peak.
    bind (lose version Stream d) _ (FitsLose version (FitsSorts Stream)) P (lose-fits version Stream d) λ faults f.
    after (only (field.Do ∷ field.Cut ∷ field.Peak ∷ field.Lose ∷ []) d) _ P (good P (command.Twin cut peak faults) (two, c, f))

pub duplex-fits : (version : ℕ) (d : Data) → version ≡ 2 → Gives (duplex version d) (FitsCommand version)
unfolding duplex
duplex-fits version d two = let P = FitsCommand version in
    bind (number_field HOST d) _ (EndIn HOST) P (number_field-fits HOST d) λ host h.
    bind (acts host d) _ (ActsFit host) P (acts-fit host d) λ list a.
    bind (number SEED d) _ (IsIn SEED) P (number-fits SEED d (omega arith, omega arith)) λ seed s. pass (flag field.Peak false d) _ P λ peak.
    bind (lose version Any d) _ (FitsLose version (FitsSorts Any)) P (lose-fits version Any d) λ faults f.
    after (only (field.Do ∷ field.Host ∷ field.Acts ∷ field.Seed ∷ field.Peak ∷ field.Lose ∷ []) d) _ P
    (good P (command.Duplex host list seed peak faults) (two, h, a.some, a.few, a.fit, s, f))
