-- What is written of a command is read back.
use Rattle.std.proofs.Common.{◌≡◌, ◌≢◌, ℕ, ◌==◌, List, [], ◌∷◌, length, Bool, true, false, Option, None, Some, refl, arith, inl, inr}
use Rattle.std.proofs.lemmas.Bool.Decides.{nat_tests}
use Rattle.std.specs.Prelude.{◌⊎◌, Ok, IfSome}
use Rattle.chdr_words.specs.declared.control.CtrlOp.{CtrlOp}
use Rattle.chdr_words.specs.declared.control.CtrlOp.TheVariants as ctrl_op
use Rattle.chdr_words.specs.declared.epid.Epid.{Epid}
use Rattle.block_library.specs.declared.kind.BlockKind.{BlockKind}
use Rattle.block_library.specs.declared.kind.BlockKind.TheVariants as kind
use Rattle.graph_core.specs.declared.place.PortAt.{PortAt}
use Rattle.graph_core.specs.declared.place.Prop.{Prop}
use Rattle.graph_core.specs.declared.place.Prop.TheVariants.{Rate, Item, Spp}
use Rattle.graph_core.specs.declared.place.PropAt.{PropAt}
use Rattle.graph_core.specs.declared.place.Side.{Side}
use Rattle.graph_core.specs.declared.place.Side.TheVariants.{Into, Out}
use Rattle.net_topology.specs.declared.plan.LinkPlan.{LinkPlan}
use Rattle.net_topology.specs.declared.plan.NodePlan.{NodePlan}
use Rattle.net_faults.specs.declared.fault.Fault.{Fault}
use Rattle.stream_endpoint.specs.declared.flow.Flow.{Flow}
use Rattle.stream_endpoint.specs.declared.flow.Policy.{Policy}
use Rattle.stream_endpoint.specs.declared.flow.Policy.TheVariants.{Auto, Off}
use Rattle.stream_endpoint.specs.Flow.{IsValid}
use Rattle.rf_script_types.specs.declared.command.ScriptCommand.TheVariants as command
use Rattle.rf_script_types.specs.declared.field.Field.TheVariants as field
use Rattle.rf_script_types.specs.declared.table.Number.{Number}
use Rattle.rf_script_types.specs.declared.table.TheConstants.{ROOM, HOST, ROUTE_FROM, TO, PORT, ADDR, WORD, ENABLES, SLOT, KEEP, TIMES, SWITCH, IN_EPID, OUT_EPID, PACKETS, TIME, FROM_PORT, TO_PORT, CAP_BYTES, CAP_PACKETS, FREQ_BYTES, FREQ_PACKETS, MAX, START, SET_BLOCK, SET_PORT, RATE, ITEM, SPP, SEED, CUT}
use Rattle.rf_script_types.specs.CommandText.{net_text, discover_text, route_text, control_head, control_text, unload_text, block_text, connect_text, set_text, commit_text, run_text, twin_text, pair}
use Rattle.rf_script_types.specs.Fits.{IsIn, FitsStreamFault, FitsPlainFault, FitsLose, FitsNet, FitsControl, FitsBlock, FitsEnds, FitsValue, IsNamed}
use Rattle.rf_script_types.specs.Text.{whole, list, end_text}
use Rattle.rf_script_types.specs.Words.{op_name, side_name, property_name, policy_name, op_of, side_of, property_of, policy_of, kind_word_of}
use Rattle.rf_script_parts.specs.declared.scope.Scope.{Scope}
use Rattle.rf_script_parts.specs.Net.{net}
use Rattle.rf_script_parts.specs.Others.{only}
use Rattle.rf_script_parts.specs.Pair.{pair_of, pair_field}
use Rattle.rf_script_parts.specs.Scope.{ends, one_end, two_ends, end_at, check_end}
use Rattle.rf_script_parts.specs.Value.{find, sized, element}
use Rattle.rf_script_reader.specs.Block.{block, kind_word}
use Rattle.rf_script_reader.specs.Connect.{connect, port_at, policy, set, side, property, property_value, commit, is_valid}
use Rattle.rf_script_reader.specs.Control.{discover, route, control, unload, operation_field, words}
use Rattle.rf_script_reader.specs.Run.{run, twin}
use Rattle.serde_json.specs.Data.{Data}
use Rattle.rf_script_round.proofs.BackLemmas.{within-in, number-back, optional-back, optional-none, flag-back, endpoint-back, endpoint_field-back}
use Rattle.rf_script_round.proofs.ListBack.{stream_lose-back, plain_lose-back, link_field-back, node_field-back, check_words-back, word_list-back}

pub net-back : (version : ℕ) (nodes : List NodePlan) (links : List LinkPlan) (room : ℕ) (routed : Bool) (limit : ℕ) → FitsNet version nodes links room limit
    → net version (net_text nodes links room routed) ≡ Ok (record { command = command.Net nodes links room routed limit; names = Some [] })
unfolding net only
net-back version nodes links room routed limit h = let d = net_text nodes links room routed in
    rw (
      node_field-back version d nodes refl h.some h.each_node,
      link_field-back d links refl h.each_link,
      number-back ROOM d room refl h.room_is_in,
      flag-back field.Routed true routed d refl,
      h.limit_is,
    )

pub discover-back : (scope : Scope) (host : Epid) (lose : List Fault) → IsIn HOST host.0 → FitsLose scope.version FitsPlainFault lose
    → discover scope (discover_text host lose) ≡ Ok (command.Discover host lose)
unfolding discover only
discover-back scope host lose h k = let d = discover_text host lose in
    rw (endpoint_field-back scope HOST d host refl h, plain_lose-back scope.version d lose refl k)

differs : (a b : ℕ) → a ≢ b → (a == b) ≡ false
differs a b h = grind (arith, nat_tests)

pub route-back : (scope : Scope) (host from to : Epid) (lose : List Fault) → IsIn HOST host.0 → IsIn ROUTE_FROM from.0 → IsIn TO to.0 → to.0 ≢ from.0
    → FitsLose scope.version FitsPlainFault lose → route scope (route_text host from to lose) ≡ Ok (command.Route host from to lose)
unfolding route only
route-back scope host from to lose h i j apart k = let d = route_text host from to lose in
    rw (
      endpoint_field-back scope HOST d host refl h,
      endpoint_field-back scope ROUTE_FROM d from refl i,
      endpoint_field-back scope TO d to refl j,
      differs to.0 from.0 apart,
      plain_lose-back scope.version d lose refl k,
    )

pub op-back : (op : CtrlOp) → IsNamed op → op_of (op_name op) ≡ Some op
unfolding op_of
op-back ctrl_op.Sleep h = refl
op-back ctrl_op.Write h = refl
op-back ctrl_op.Read h = refl
op-back ctrl_op.ReadWrite h = refl
op-back ctrl_op.BlockWrite h = refl
op-back ctrl_op.BlockRead h = refl
op-back ctrl_op.Poll h = refl
op-back (ctrl_op.Other code) h = absurd h
op-back (ctrl_op.User code) h = absurd h

pub control-back : (scope : Scope) (host to : Epid) (port : ℕ) (op : CtrlOp) (addr : ℕ) (list : List ℕ) (enables : ℕ) (lose : List Fault)
    → FitsControl scope.version host to port op addr list enables lose
    → control scope (control_text (control_head host to port op addr) list enables lose) ≡ Ok (command.Control host to port op addr list enables lose)
unfolding control operation_field words only
control-back scope host to port op addr list enables lose h = let d = control_text (control_head host to port op addr) list enables lose in
    rw (
      endpoint_field-back scope HOST d host refl h.host_is_in,
      endpoint_field-back scope TO d to refl h.to_is_in,
      number-back PORT d port refl h.port_is_in,
      op-back op h.op_is_named,
      number-back ADDR d addr refl h.addr_is_in,
      check_words-back field.Words list,
      word_list-back WORD list (omega arith) h.words_fit,
      number-back ENABLES d enables refl h.enables_are_in,
      plain_lose-back scope.version d lose refl h.lose_fits,
    )

pub unload-back : (port : ℕ) → IsIn SLOT port → unload (unload_text port) ≡ Ok (command.Unload port)
unfolding unload only
unload-back port h = rw (number-back SLOT (unload_text port) port refl h)

-- ---- blocks

one_end-back : (scope : Scope) (range : Number) (d : Data) (e : Epid) → find range.key d ≡ Some (list end_text (e ∷ [])) → IsIn range e.0
    → ends scope range 1 d ≡ Ok (e ∷ [])
unfolding ends one_end sized end_at
one_end-back scope range d e found h = rw (found, endpoint-back scope range e h)

two_ends-back : (scope : Scope) (range : Number) (d : Data) (e f : Epid) → find range.key d ≡ Some (list end_text (e ∷ f ∷ [])) → IsIn range e.0 → IsIn range f.0
    → ends scope range 2 d ≡ Ok (e ∷ f ∷ [])
unfolding ends two_ends sized check_end end_at
two_ends-back scope range d e f found h k = rw (found, endpoint-back scope range e h, endpoint-back scope range f k)

no_ends-back : (scope : Scope) (range : Number) (d : Data) → ends scope range 0 d ≡ Ok []
unfolding ends
no_ends-back scope range d = refl

-- a list of one item, of two
pub record IsOne (range : Number) (es : List Epid) : Type 0 where
  pub first : Epid
  pub is : es ≡ first ∷ []
  pub in_range : IsIn range first.0

pub record IsTwo (range : Number) (es : List Epid) : Type 0 where
  pub first : Epid
  pub second : Epid
  pub is : es ≡ first ∷ second ∷ []
  pub first_in : IsIn range first.0
  pub second_in : IsIn range second.0

pub no_items_in : (es : List Epid) → length es ≡ 0 → es ≡ []
no_items_in [] h = refl
no_items_in (e ∷ es) h = absurd (omega arith)

pub one_item : (range : Number) (es : List Epid) → FitsEnds range 1 es → IsOne range es
one_item range [] h = absurd (omega (arith, h.0))
one_item range (e ∷ []) h = record { first = e; is = refl; in_range = h.1.0 }
one_item range (e ∷ f ∷ es) h = absurd (omega (arith, h.0))

pub two_items : (range : Number) (es : List Epid) → FitsEnds range 2 es → IsTwo range es
two_items range [] h = absurd (omega (arith, h.0))
two_items range (e ∷ []) h = absurd (omega (arith, h.0))
two_items range (e ∷ f ∷ []) h = record { first = e; second = f; is = refl; first_in = h.1.0; second_in = h.1.1.0 }
two_items range (e ∷ f ∷ g ∷ es) h = absurd (omega (arith, h.0))

tx-back : (scope : Scope) (o : Epid) (packets : ℕ) (time : Option ℕ) → IsIn OUT_EPID o.0 → IsIn PACKETS packets → IfSome time (IsIn TIME)
    → block scope (block_text kind.Tx [] (o ∷ []) packets time) ≡ Ok (command.Block kind.Tx [] (o ∷ []) packets time)
unfolding block kind_word kind_word_of only
tx-back scope o packets None h i j = let d = block_text kind.Tx [] (o ∷ []) packets None in
    rw (no_ends-back scope IN_EPID d, one_end-back scope OUT_EPID d o refl h, number-back PACKETS d packets refl i, optional-none TIME d refl)
tx-back scope o packets (Some t) h i j = let d = block_text kind.Tx [] (o ∷ []) packets (Some t) in
    rw (no_ends-back scope IN_EPID d, one_end-back scope OUT_EPID d o refl h, number-back PACKETS d packets refl i, optional-back TIME d t refl j)

rx-back : (scope : Scope) (i : Epid) → IsIn IN_EPID i.0 → block scope (block_text kind.Rx (i ∷ []) [] 0 None) ≡ Ok (command.Block kind.Rx (i ∷ []) [] 0 None)
unfolding block kind_word kind_word_of only
rx-back scope i h = let d = block_text kind.Rx (i ∷ []) [] 0 None in
    rw (one_end-back scope IN_EPID d i refl h, no_ends-back scope OUT_EPID d)

sink-back : (scope : Scope) (i : Epid) → IsIn IN_EPID i.0 → block scope (block_text kind.Sink (i ∷ []) [] 0 None) ≡ Ok (command.Block kind.Sink (i ∷ []) [] 0 None)
unfolding block kind_word kind_word_of only
sink-back scope i h = let d = block_text kind.Sink (i ∷ []) [] 0 None in
    rw (one_end-back scope IN_EPID d i refl h, no_ends-back scope OUT_EPID d)

fifo-back : (scope : Scope) (i o : Epid) → IsIn IN_EPID i.0 → IsIn OUT_EPID o.0
    → block scope (block_text kind.Fifo (i ∷ []) (o ∷ []) 0 None) ≡ Ok (command.Block kind.Fifo (i ∷ []) (o ∷ []) 0 None)
unfolding block kind_word kind_word_of only
fifo-back scope i o h k = let d = block_text kind.Fifo (i ∷ []) (o ∷ []) 0 None in
    rw (one_end-back scope IN_EPID d i refl h, one_end-back scope OUT_EPID d o refl k)

split-back : (scope : Scope) (i o p : Epid) → IsIn IN_EPID i.0 → IsIn OUT_EPID o.0 → IsIn OUT_EPID p.0
    → block scope (block_text kind.Split (i ∷ []) (o ∷ p ∷ []) 0 None) ≡ Ok (command.Block kind.Split (i ∷ []) (o ∷ p ∷ []) 0 None)
unfolding block kind_word kind_word_of only
split-back scope i o p h k l = let d = block_text kind.Split (i ∷ []) (o ∷ p ∷ []) 0 None in
    rw (one_end-back scope IN_EPID d i refl h, two_ends-back scope OUT_EPID d o p refl k l)

keep-back : (scope : Scope) (n : ℕ) (i o : Epid) → IsIn KEEP n → IsIn IN_EPID i.0 → IsIn OUT_EPID o.0
    → block scope (block_text (kind.Keep n) (i ∷ []) (o ∷ []) 0 None) ≡ Ok (command.Block (kind.Keep n) (i ∷ []) (o ∷ []) 0 None)
unfolding block kind_word kind_word_of only
keep-back scope n i o g h k = let d = block_text (kind.Keep n) (i ∷ []) (o ∷ []) 0 None in
    rw (number-back KEEP d n refl g, one_end-back scope IN_EPID d i refl h, one_end-back scope OUT_EPID d o refl k)

repeat-back : (scope : Scope) (n : ℕ) (i o : Epid) → IsIn TIMES n → IsIn IN_EPID i.0 → IsIn OUT_EPID o.0
    → block scope (block_text (kind.Repeat n) (i ∷ []) (o ∷ []) 0 None) ≡ Ok (command.Block (kind.Repeat n) (i ∷ []) (o ∷ []) 0 None)
unfolding block kind_word kind_word_of only
repeat-back scope n i o g h k = let d = block_text (kind.Repeat n) (i ∷ []) (o ∷ []) 0 None in
    rw (number-back TIMES d n refl g, one_end-back scope IN_EPID d i refl h, one_end-back scope OUT_EPID d o refl k)

replay-back : (scope : Scope) (n : ℕ) (i o : Epid) → IsIn TIMES n → IsIn IN_EPID i.0 → IsIn OUT_EPID o.0
    → block scope (block_text (kind.Replay n) (i ∷ []) (o ∷ []) 0 None) ≡ Ok (command.Block (kind.Replay n) (i ∷ []) (o ∷ []) 0 None)
unfolding block kind_word kind_word_of only
replay-back scope n i o g h k = let d = block_text (kind.Replay n) (i ∷ []) (o ∷ []) 0 None in
    rw (number-back TIMES d n refl g, one_end-back scope IN_EPID d i refl h, one_end-back scope OUT_EPID d o refl k)

switch-back : (scope : Scope) (n : ℕ) (i j o : Epid) → IsIn SWITCH n → IsIn IN_EPID i.0 → IsIn IN_EPID j.0 → IsIn OUT_EPID o.0
    → block scope (block_text (kind.Switch n) (i ∷ j ∷ []) (o ∷ []) 0 None) ≡ Ok (command.Block (kind.Switch n) (i ∷ j ∷ []) (o ∷ []) 0 None)
unfolding block kind_word kind_word_of only
switch-back scope n i j o g h l k = let d = block_text (kind.Switch n) (i ∷ j ∷ []) (o ∷ []) 0 None in
    rw (number-back SWITCH d n refl g, two_ends-back scope IN_EPID d i j refl h l, one_end-back scope OUT_EPID d o refl k)

abbrev IsBack : Scope → BlockKind → List Epid → List Epid → ℕ → Option ℕ → Type 0
IsBack scope k ins outs packets time = block scope (block_text k ins outs packets time) ≡ Ok (command.Block k ins outs packets time)

-- with the lists, the count and the timestamp as they have to be
in_place : (scope : Scope) (k : BlockKind) (ins outs is os : List Epid) (packets : ℕ) (time : Option ℕ) → ins ≡ is → outs ≡ os → packets ≡ 0 → time ≡ None
    → IsBack scope k is os 0 None → IsBack scope k ins outs packets time
in_place scope k ins outs is os packets time a b c d back = rw (a, b, c, d) back

pub block-back : (scope : Scope) (k : BlockKind) (ins outs : List Epid) (packets : ℕ) (time : Option ℕ) → FitsBlock k ins outs packets time → IsBack scope k ins outs packets time
block-back scope kind.Tx ins outs packets time h = let o = one_item OUT_EPID outs h.outs_fit in
    rw (no_items_in ins h.ins_fit.0, o.is) (tx-back scope o.first packets time o.in_range h.count_fits.0 h.count_fits.1)
block-back scope kind.Rx ins outs packets time h = let i = one_item IN_EPID ins h.ins_fit in
    in_place scope _ ins outs _ _ packets time i.is (no_items_in outs h.outs_fit.0) h.count_fits.0 h.count_fits.1 (rx-back scope i.first i.in_range)
block-back scope kind.Fifo ins outs packets time h = let i = one_item IN_EPID ins h.ins_fit in let o = one_item OUT_EPID outs h.outs_fit in
    in_place scope _ ins outs _ _ packets time i.is o.is h.count_fits.0 h.count_fits.1 (fifo-back scope i.first o.first i.in_range o.in_range)
block-back scope kind.Split ins outs packets time h = let i = one_item IN_EPID ins h.ins_fit in let o = two_items OUT_EPID outs h.outs_fit in
    in_place scope _ ins outs _ _ packets time i.is o.is h.count_fits.0 h.count_fits.1 (split-back scope i.first o.first o.second i.in_range o.first_in o.second_in)
block-back scope (kind.Keep n) ins outs packets time h = let i = one_item IN_EPID ins h.ins_fit in let o = one_item OUT_EPID outs h.outs_fit in
    in_place scope _ ins outs _ _ packets time i.is o.is h.count_fits.0 h.count_fits.1 (keep-back scope n i.first o.first h.number_fits i.in_range o.in_range)
block-back scope (kind.Repeat n) ins outs packets time h = let i = one_item IN_EPID ins h.ins_fit in let o = one_item OUT_EPID outs h.outs_fit in
    in_place scope _ ins outs _ _ packets time i.is o.is h.count_fits.0 h.count_fits.1 (repeat-back scope n i.first o.first h.number_fits i.in_range o.in_range)
block-back scope (kind.Replay n) ins outs packets time h = let i = one_item IN_EPID ins h.ins_fit in let o = one_item OUT_EPID outs h.outs_fit in
    in_place scope _ ins outs _ _ packets time i.is o.is h.count_fits.0 h.count_fits.1 (replay-back scope n i.first o.first h.number_fits i.in_range o.in_range)
block-back scope (kind.Switch n) ins outs packets time h = let i = two_items IN_EPID ins h.ins_fit in let o = one_item OUT_EPID outs h.outs_fit in
    in_place scope _ ins outs _ _ packets time i.is o.is h.count_fits.0 h.count_fits.1 (switch-back scope n i.first i.second o.first h.number_fits i.first_in i.second_in o.in_range)
block-back scope kind.Sink ins outs packets time h = let i = one_item IN_EPID ins h.ins_fit in
    in_place scope _ ins outs _ _ packets time i.is (no_items_in outs h.outs_fit.0) h.count_fits.0 h.count_fits.1 (sink-back scope i.first i.in_range)

-- ---- connect, set, run, twin

pair_field-back : (first second : Number) (d : Data) (a b : ℕ) → find first.key d ≡ Some (pair a b) → IsIn first a → IsIn second b
    → pair_field first second d ≡ Ok (record { first = a; second = b })
unfolding pair_field pair_of sized element
pair_field-back first second d a b e h k = rw (e, within-in first a h, within-in second b k)

port_at-back : (range : Number) (d : Data) (at : PortAt) → find range.key d ≡ Some (pair at.block at.port) → IsIn range at.block → IsIn range at.port
    → port_at range d ≡ Ok at
unfolding port_at
port_at-back range d at e h k = rw (pair_field-back range range d at.block at.port e h k)

policy-back : (p : Policy) → policy_of (policy_name p) ≡ Some p
unfolding policy_of
policy-back Auto = refl
policy-back Off = refl

valid-true : (flow : Flow) → IsValid flow → is_valid flow ≡ true
valid-true flow h = grind (arith, nat_tests)

pub connect-back : (from to : PortAt) (flow : Flow) (start : ℕ) (p : Policy) → IsIn FROM_PORT from.block → IsIn FROM_PORT from.port → IsIn TO_PORT to.block
    → IsIn TO_PORT to.port → IsValid flow → IsIn START start → connect (connect_text from to flow start p) ≡ Ok (command.Connect from to flow start p)
unfolding connect policy only
connect-back from to flow start p a b c e v s = let d = connect_text from to flow start p in
    let cap_bytes : IsIn CAP_BYTES flow.cap_bytes = (omega arith, omega arith) in
    let cap_packets : IsIn CAP_PACKETS flow.cap_packets = (omega arith, omega arith) in
    let freq_bytes : IsIn FREQ_BYTES flow.freq_bytes = (omega arith, omega arith) in
    let freq_packets : IsIn FREQ_PACKETS flow.freq_packets = (omega arith, omega arith) in
    let most : IsIn MAX flow.max = (omega arith, omega arith) in
    rw (
      port_at-back FROM_PORT d from refl a b,
      port_at-back TO_PORT d to refl c e,
      pair_field-back CAP_BYTES CAP_PACKETS d flow.cap_bytes flow.cap_packets refl cap_bytes cap_packets,
      pair_field-back FREQ_BYTES FREQ_PACKETS d flow.freq_bytes flow.freq_packets refl freq_bytes freq_packets,
      number-back MAX d flow.max refl most,
      number-back START d start refl s,
      policy-back p,
      valid-true flow v,
    )

side-back : (s : Side) → side_of (side_name s) ≡ Some s
unfolding side_of
side-back Into = refl
side-back Out = refl

property-back : (p : Prop) → property_of (property_name p) ≡ Some p
unfolding property_of
property-back Rate = refl
property-back Item = refl
property-back Spp = refl

item-back : (d : Data) (value : ℕ) → find field.Value d ≡ Some (whole value) → (value ≡ 4) ⊎ (value ≡ 8) → property_value Item d ≡ Ok value
item-back d value e (inl four) = rw (number-back ITEM d value e (omega arith, omega arith), four)
item-back d value e (inr eight) = rw (number-back ITEM d value e (omega arith, omega arith), eight)

property_value-back : (p : Prop) (d : Data) (value : ℕ) → find field.Value d ≡ Some (whole value) → FitsValue p value → property_value p d ≡ Ok value
property_value-back Rate d value e h = number-back RATE d value e h
property_value-back Item d value e h = item-back d value e h
property_value-back Spp d value e h = number-back SPP d value e h

pub set-back : (at : PropAt) (value : ℕ) → IsIn SET_BLOCK at.block → IsIn SET_PORT at.port → FitsValue at.prop value → set (set_text at value) ≡ Ok (command.Set at value)
unfolding set side property only
set-back at value h k v = let d = set_text at value in
    rw (number-back SET_BLOCK d at.block refl h, side-back at.side, number-back SET_PORT d at.port refl k, property-back at.prop, property_value-back at.prop d value refl v)

pub commit-back : commit commit_text ≡ Ok command.Commit
unfolding commit only
commit-back = refl

pub run-back : (version seed : ℕ) (trace peak : Bool) (lose : List Fault) → IsIn SEED seed → FitsLose version FitsStreamFault lose
    → run version (run_text seed trace peak lose) ≡ Ok (command.Run seed trace peak lose)
unfolding run only
run-back version seed trace peak lose h k = let d = run_text seed trace peak lose in
    rw (number-back SEED d seed refl h, flag-back field.Trace false trace d refl, flag-back field.Peak false peak d refl, stream_lose-back version d lose refl k)

pub twin-back : (version cut : ℕ) (peak : Bool) (lose : List Fault) → IsIn CUT cut → FitsLose version FitsStreamFault lose
    → twin version (twin_text cut peak lose) ≡ Ok (command.Twin cut peak lose)
unfolding twin only
twin-back version cut peak lose h k = let d = twin_text cut peak lose in
    rw (number-back CUT d cut refl h, flag-back field.Peak false peak d refl, stream_lose-back version d lose refl k)
