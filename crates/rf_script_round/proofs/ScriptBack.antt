-- What is written of a script is read back.
use Rattle.std.proofs.Common.{◌≡◌, ℕ, ◌≤◌, List, [], ◌∷◌, ◌++◌, length, map, true, Option, None, Some, refl, sym, ap, ◌∙◌, subst, append_assoc, append-nil, arith, inl, inr}
use Rattle.std.proofs.lemmas.Bool.Decides.{nat_tests}
use Rattle.std.specs.Prelude.{◌⊎◌, Ok, nat_le}
use Rattle.chdr_words.specs.declared.epid.Epid.{Epid}
use Rattle.block_library.specs.declared.kind.BlockKind.{BlockKind}
use Rattle.block_library.specs.declared.kind.BlockKind.TheVariants as kind
use Rattle.rf_script_types.specs.declared.command.Script.{Script}
use Rattle.rf_script_types.specs.declared.command.ScriptCommand.{ScriptCommand}
use Rattle.rf_script_types.specs.declared.command.ScriptCommand.TheVariants.{Net, Discover, Route, Control, Unload, Block, Connect, Set, Commit, Run, Twin, Duplex}
use Rattle.rf_script_types.specs.declared.table.TheConstants.{RFNOC, IN_EPID, OUT_EPID}
use Rattle.rf_script_types.specs.declared.words.Verb.TheVariants as verb_is
use Rattle.rf_script_types.specs.CommandText.{block_text, command_text, script_text}
use Rattle.rf_script_types.specs.Fits.{Each, FitsBlock, FitsCommand, FitsScript, FitsLose, FitsStreamFault, FitsAnyFault}
use Rattle.rf_script_types.specs.Limits.{command_limit}
use Rattle.rf_script_types.specs.Words.{verb_of}
use Rattle.rf_script_parts.specs.Others.{only}
use Rattle.rf_script_reader.specs.declared.commands.SoFar.{SoFar}
use Rattle.rf_script_reader.specs.Commands.{more, verb, commands, commands_from, command_items, version_of, script_of}
use Rattle.serde_json.specs.View.{items_of}
use Rattle.rf_script_round.proofs.BackLemmas.{number-back, items_len-list}
use Rattle.rf_script_round.proofs.CommandBack.{no_items_in, one_item, two_items, net-back, discover-back, route-back, control-back, unload-back, block-back, connect-back, set-back, commit-back, run-back, twin-back}
use Rattle.rf_script_round.proofs.ActBack.{duplex-back}

-- so many commands were read, none of which left a name
abbrev after : ℕ → List ScriptCommand → SoFar
after version done = record { scope = record { version = version; names = [] }; list = done }

-- ---- the verb of a block, whose fields are those of its kind

abbrev IsBlock : ℕ → BlockKind → List Epid → List Epid → ℕ → Option ℕ → Type 0
IsBlock version k ins outs packets time = verb version (block_text k ins outs packets time) ≡ Ok verb_is.Block

-- with the lists and the timestamp as they have to be
in_place : (version : ℕ) (k : BlockKind) (ins outs is os : List Epid) (packets : ℕ) (time : Option ℕ) → ins ≡ is → outs ≡ os → time ≡ None
    → IsBlock version k is os packets None → IsBlock version k ins outs packets time
in_place version k ins outs is os packets time a b c block = rw (a, b, c) block

tx_is_block : (version : ℕ) (o : Epid) (packets : ℕ) (time : Option ℕ) → IsBlock version kind.Tx [] (o ∷ []) packets time
unfolding verb verb_of
tx_is_block version o packets None = refl
tx_is_block version o packets (Some t) = refl

in_is_block : (version : ℕ) (i : Epid) (packets : ℕ) → IsBlock version kind.Rx (i ∷ []) [] packets None
unfolding verb verb_of
in_is_block version i packets = refl

sink_is_block : (version : ℕ) (i : Epid) (packets : ℕ) → IsBlock version kind.Sink (i ∷ []) [] packets None
unfolding verb verb_of
sink_is_block version i packets = refl

fifo_is_block : (version : ℕ) (i o : Epid) (packets : ℕ) → IsBlock version kind.Fifo (i ∷ []) (o ∷ []) packets None
unfolding verb verb_of
fifo_is_block version i o packets = refl

split_is_block : (version : ℕ) (i o p : Epid) (packets : ℕ) → IsBlock version kind.Split (i ∷ []) (o ∷ p ∷ []) packets None
unfolding verb verb_of
split_is_block version i o p packets = refl

keep_is_block : (version n : ℕ) (i o : Epid) (packets : ℕ) → IsBlock version (kind.Keep n) (i ∷ []) (o ∷ []) packets None
unfolding verb verb_of
keep_is_block version n i o packets = refl

repeat_is_block : (version n : ℕ) (i o : Epid) (packets : ℕ) → IsBlock version (kind.Repeat n) (i ∷ []) (o ∷ []) packets None
unfolding verb verb_of
repeat_is_block version n i o packets = refl

replay_is_block : (version n : ℕ) (i o : Epid) (packets : ℕ) → IsBlock version (kind.Replay n) (i ∷ []) (o ∷ []) packets None
unfolding verb verb_of
replay_is_block version n i o packets = refl

switch_is_block : (version n : ℕ) (i j o : Epid) (packets : ℕ) → IsBlock version (kind.Switch n) (i ∷ j ∷ []) (o ∷ []) packets None
unfolding verb verb_of
switch_is_block version n i j o packets = refl

is_block : (version : ℕ) (k : BlockKind) (ins outs : List Epid) (packets : ℕ) (time : Option ℕ) → FitsBlock k ins outs packets time → IsBlock version k ins outs packets time
is_block version kind.Tx ins outs packets time h = let o = one_item OUT_EPID outs h.outs_fit in
    rw (no_items_in ins h.ins_fit.0, o.is) (tx_is_block version o.first packets time)
is_block version kind.Rx ins outs packets time h = let i = one_item IN_EPID ins h.ins_fit in
    in_place version kind.Rx ins outs _ _ packets time i.is (no_items_in outs h.outs_fit.0) h.count_fits.1 (in_is_block version i.first packets)
is_block version kind.Fifo ins outs packets time h = let i = one_item IN_EPID ins h.ins_fit in let o = one_item OUT_EPID outs h.outs_fit in
    in_place version kind.Fifo ins outs _ _ packets time i.is o.is h.count_fits.1 (fifo_is_block version i.first o.first packets)
is_block version kind.Split ins outs packets time h = let i = one_item IN_EPID ins h.ins_fit in let o = two_items OUT_EPID outs h.outs_fit in
    in_place version kind.Split ins outs _ _ packets time i.is o.is h.count_fits.1 (split_is_block version i.first o.first o.second packets)
is_block version (kind.Keep n) ins outs packets time h = let i = one_item IN_EPID ins h.ins_fit in let o = one_item OUT_EPID outs h.outs_fit in
    in_place version (kind.Keep n) ins outs _ _ packets time i.is o.is h.count_fits.1 (keep_is_block version n i.first o.first packets)
is_block version (kind.Repeat n) ins outs packets time h = let i = one_item IN_EPID ins h.ins_fit in let o = one_item OUT_EPID outs h.outs_fit in
    in_place version (kind.Repeat n) ins outs _ _ packets time i.is o.is h.count_fits.1 (repeat_is_block version n i.first o.first packets)
is_block version (kind.Replay n) ins outs packets time h = let i = one_item IN_EPID ins h.ins_fit in let o = one_item OUT_EPID outs h.outs_fit in
    in_place version (kind.Replay n) ins outs _ _ packets time i.is o.is h.count_fits.1 (replay_is_block version n i.first o.first packets)
is_block version (kind.Switch n) ins outs packets time h = let i = two_items IN_EPID ins h.ins_fit in let o = one_item OUT_EPID outs h.outs_fit in
    in_place version (kind.Switch n) ins outs _ _ packets time i.is o.is h.count_fits.1 (switch_is_block version n i.first i.second o.first packets)
is_block version kind.Sink ins outs packets time h = let i = one_item IN_EPID ins h.ins_fit in
    in_place version kind.Sink ins outs _ _ packets time i.is (no_items_in outs h.outs_fit.0) h.count_fits.1 (sink_is_block version i.first packets)

more_block : (version : ℕ) (done : List ScriptCommand) (k : BlockKind) (ins outs : List Epid) (packets : ℕ) (time : Option ℕ) → FitsBlock k ins outs packets time
    → more (after version done) (block_text k ins outs packets time) ≡ Ok (after version (done ++ Block k ins outs packets time ∷ []))
unfolding more
more_block version done k ins outs packets time h =
    rw (is_block version k ins outs packets time h, block-back (record { version = version; names = [] }) k ins outs packets time h)

more-back : (version : ℕ) (done : List ScriptCommand) (c : ScriptCommand) → FitsCommand version c → more (after version done) (command_text c) ≡ Ok (after version (done ++ c ∷ []))
unfolding more verb verb_of
more-back version done (Net nodes links room routed limit) h = rw (net-back version nodes links room routed limit h)
more-back version done (Discover host lose) h = rw (discover-back (record { version = version; names = [] }) host lose h.0 h.1)
more-back version done (Route host from to lose) h = rw (route-back (record { version = version; names = [] }) host from to lose h.0 h.1 h.2 h.3 h.4)
more-back version done (Control host to port op addr words enables lose) h = rw (control-back (record { version = version; names = [] }) host to port op addr words enables lose h)
more-back version done (Unload port) h = rw (unload-back port h)
more-back version done (Block k ins outs packets time) h = more_block version done k ins outs packets time h
more-back version done (Connect from to flow start policy) h = rw (connect-back from to flow start policy h.0 h.1 h.2 h.3 h.4 h.5)
more-back version done (Set at value) h = rw (set-back at value h.0 h.1 h.2)
more-back version done Commit h = rw commit-back
more-back version done (Run seed trace peak lose) h = rw (run-back version seed trace peak lose h.0 h.1)
more-back version done (Twin cut peak lose) h = rw (h.0, twin-back 2 cut peak lose h.1 (subst (λ v. FitsLose v FitsStreamFault lose) h.0 h.2))
more-back version done (Duplex host acts seed peak lose) h =
    rw (h.0, duplex-back 2 host acts seed peak lose h.1 h.2 h.3 h.4 h.5 (subst (λ v. FitsLose v FitsAnyFault lose) h.0 h.6))

commands_from-back : (version : ℕ) (done list : List ScriptCommand) → Each (FitsCommand version) list
    → commands_from (after version done) (items_of (map command_text list)) ≡ Ok (done ++ list)
commands_from-back version done [] h = ap Ok (sym (append-nil done))
commands_from-back version done (c ∷ list) h = rw (more-back version done c h.0)
    (commands_from-back version (done ++ c ∷ []) list h.1 ∙ ap Ok (append_assoc done (c ∷ []) list))

few_enough : (n limit : ℕ) → n ≤ limit → nat_le n limit ≡ true
few_enough n limit h = grind (arith, nat_tests)

version-back : (s : Script) → (s.version ≡ 1) ⊎ (s.version ≡ 2) → version_of (script_text s) ≡ Ok s.version
unfolding version_of script_text
version-back s (inl one) = rw (number-back RFNOC (script_text s) s.version refl (omega arith, omega arith))
version-back s (inr two) = rw (number-back RFNOC (script_text s) s.version refl (omega arith, omega arith))

items-back : (s : Script) → length s.commands ≤ command_limit s.version → command_items s.version (script_text s) ≡ Ok (items_of (map command_text s.commands))
unfolding command_items script_text
items-back s few = rw (items_len-list command_text s.commands, few_enough (length s.commands) (command_limit s.version) few)

pub script-back : (s : Script) → FitsScript s → script_of (script_text s) ≡ Ok s
unfolding script_of script_text only commands
script-back s h = rw (version-back s h.version, items-back s h.few, commands_from-back s.version [] s.commands h.commands)
