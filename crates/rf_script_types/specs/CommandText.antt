-- The JSON value of a command, and of a whole script.
use Rattle.std.specs.Prelude.{ℕ, List, [], ◌∷◌, Bool, Option, None, Some}
use Rattle.chdr_words.specs.declared.control.CtrlOp.{CtrlOp}
use Rattle.chdr_words.specs.declared.epid.Epid.{Epid}
use Rattle.block_library.specs.declared.kind.BlockKind.{BlockKind}
use Rattle.block_library.specs.declared.kind.BlockKind.TheVariants as kind
use Rattle.graph_core.specs.declared.place.PortAt.{PortAt}
use Rattle.graph_core.specs.declared.place.PropAt.{PropAt}
use Rattle.net_topology.specs.declared.plan.NodePlan.{NodePlan}
use Rattle.net_topology.specs.declared.plan.LinkPlan.{LinkPlan}
use Rattle.net_faults.specs.declared.fault.Fault.{Fault}
use Rattle.stream_endpoint.specs.declared.flow.Flow.{Flow}
use Rattle.stream_endpoint.specs.declared.flow.Policy.{Policy}
use Rattle.rf_script_types.specs.declared.act.Act.{Act}
use Rattle.rf_script_types.specs.declared.command.Script.{Script}
use Rattle.rf_script_types.specs.declared.command.ScriptCommand.{ScriptCommand}
use Rattle.rf_script_types.specs.declared.command.ScriptCommand.TheVariants.{Net, Discover, Route, Control, Unload, Block, Connect, Set, Commit, Run, Twin, Duplex}
use Rattle.rf_script_types.specs.declared.field.Field.{Field}
use Rattle.rf_script_types.specs.declared.field.Field.TheVariants as field
use Rattle.rf_script_types.specs.declared.words.Verb.{Verb}
use Rattle.rf_script_types.specs.declared.words.Verb.TheVariants as verb
use Rattle.rf_script_types.specs.declared.words.KindWord.{KindWord}
use Rattle.rf_script_types.specs.declared.words.KindWord.TheVariants as word_is
use Rattle.rf_script_types.specs.Words.{verb_name, kind_word_name, op_name, side_name, property_name, policy_name}
use Rattle.rf_script_types.specs.Text.{whole, word, list, with, node_text, link_text, fault_text, end_text, act_text}
use Rattle.serde_json.specs.Data.{Data, boolean, object, Members, no_members}

-- every command has its verb
abbrev pub do_text : Verb → Members
do_text v = with field.Do (word (verb_name v)) no_members

abbrev pub with_lose : List Fault → Members → Members
with_lose lose ms = with field.Lose (list fault_text lose) ms

abbrev pub net_text : List NodePlan → List LinkPlan → ℕ → Bool → Data
net_text nodes links room routed = object (with field.Routed (boolean routed) (with field.Room (whole room)
    (with field.Links (list link_text links) (with field.Nodes (list node_text nodes) (do_text verb.Net)))))

abbrev pub discover_text : Epid → List Fault → Data
discover_text host lose = object (with_lose lose (with field.Host (whole host.0) (do_text verb.Discover)))

abbrev pub route_text : Epid → Epid → Epid → List Fault → Data
route_text host from to lose = object (with_lose lose (with field.To (whole to.0) (with field.From (whole from.0)
    (with field.Host (whole host.0) (do_text verb.Route)))))

abbrev pub control_head : Epid → Epid → ℕ → CtrlOp → ℕ → Members
control_head host to port op addr = with field.Addr (whole addr) (with field.Op (word (op_name op)) (with field.Port (whole port)
    (with field.To (whole to.0) (with field.Host (whole host.0) (do_text verb.Control)))))

abbrev pub control_text : Members → List ℕ → ℕ → List Fault → Data
control_text head words enables lose = object (with_lose lose (with field.Enables (whole enables) (with field.Words (list whole words) head)))

abbrev pub unload_text : ℕ → Data
unload_text port = object (with field.Port (whole port) (do_text verb.Unload))

abbrev pub kind_word : BlockKind → KindWord
kind_word kind.Tx = word_is.Tx
kind_word kind.Rx = word_is.Rx
kind_word kind.Fifo = word_is.Fifo
kind_word kind.Split = word_is.Split
kind_word (kind.Keep n) = word_is.Keep
kind_word (kind.Repeat n) = word_is.Repeat
kind_word (kind.Replay n) = word_is.Replay
kind_word (kind.Switch n) = word_is.Switch
kind_word kind.Sink = word_is.Sink

abbrev pub kind_number : BlockKind → Option ℕ
kind_number kind.Tx = None
kind_number kind.Rx = None
kind_number kind.Fifo = None
kind_number kind.Split = None
kind_number (kind.Keep n) = Some n
kind_number (kind.Repeat n) = Some n
kind_number (kind.Replay n) = Some n
kind_number (kind.Switch n) = Some n
kind_number kind.Sink = None

-- a side without ports has no field
abbrev pub with_ends : Field → List Epid → Members → Members
with_ends label [] ms = ms
with_ends label (epid ∷ epids) ms = with label (list end_text (epid ∷ epids)) ms

abbrev pub with_optional : Field → Option ℕ → Members → Members
with_optional label None ms = ms
with_optional label (Some n) ms = with label (whole n) ms

abbrev pub packet_count : BlockKind → ℕ → Option ℕ
packet_count kind.Tx n = Some n
packet_count kind.Rx n = None
packet_count kind.Fifo n = None
packet_count kind.Split n = None
packet_count (kind.Keep m) n = None
packet_count (kind.Repeat m) n = None
packet_count (kind.Replay m) n = None
packet_count (kind.Switch m) n = None
packet_count kind.Sink n = None

abbrev pub block_text : BlockKind → List Epid → List Epid → ℕ → Option ℕ → Data
block_text k ins outs packets time = object (with_optional field.Time time (with_optional field.Packets (packet_count k packets)
    (with_ends field.Outs outs (with_ends field.Ins ins (with_optional field.Count (kind_number k)
    (with field.Kind (word (kind_word_name (kind_word k))) (do_text verb.Block)))))))

abbrev pub pair : ℕ → ℕ → Data
pair a b = list whole (a ∷ b ∷ [])

abbrev pub with_flow : Flow → Members → Members
with_flow flow ms = with field.Max (whole flow.max) (with field.Freq (pair flow.freq_bytes flow.freq_packets)
    (with field.Cap (pair flow.cap_bytes flow.cap_packets) ms))

abbrev pub connect_text : PortAt → PortAt → Flow → ℕ → Policy → Data
connect_text from to flow start policy = object (with field.Policy (word (policy_name policy)) (with field.Start (whole start)
    (with_flow flow (with field.To (pair to.block to.port) (with field.From (pair from.block from.port) (do_text verb.Connect))))))

abbrev pub set_text : PropAt → ℕ → Data
set_text at value = object (with field.Value (whole value) (with field.Property (word (property_name at.prop))
    (with field.Port (whole at.port) (with field.Side (word (side_name at.side)) (with field.Block (whole at.block) (do_text verb.Set))))))

abbrev pub commit_text : Data
commit_text = object (do_text verb.Commit)

abbrev pub run_text : ℕ → Bool → Bool → List Fault → Data
run_text seed trace peak lose = object (with_lose lose (with field.Peak (boolean peak) (with field.Trace (boolean trace)
    (with field.Seed (whole seed) (do_text verb.Run)))))

abbrev pub twin_text : ℕ → Bool → List Fault → Data
twin_text cut peak lose = object (with_lose lose (with field.Peak (boolean peak) (with field.Cut (whole cut) (do_text verb.Twin))))

abbrev pub duplex_text : Epid → List Act → ℕ → Bool → List Fault → Data
duplex_text host acts seed peak lose = object (with_lose lose (with field.Peak (boolean peak) (with field.Seed (whole seed)
    (with field.Acts (list act_text acts) (with field.Host (whole host.0) (do_text verb.Duplex))))))

abbrev pub command_text : ScriptCommand → Data
command_text (Net nodes links room routed limit) = net_text nodes links room routed
command_text (Discover host lose) = discover_text host lose
command_text (Route host from to lose) = route_text host from to lose
command_text (Control host to port op addr words enables lose) = control_text (control_head host to port op addr) words enables lose
command_text (Unload port) = unload_text port
command_text (Block k ins outs packets time) = block_text k ins outs packets time
command_text (Connect from to flow start policy) = connect_text from to flow start policy
command_text (Set at value) = set_text at value
command_text Commit = commit_text
command_text (Run seed trace peak lose) = run_text seed trace peak lose
command_text (Twin cut peak lose) = twin_text cut peak lose
command_text (Duplex host acts seed peak lose) = duplex_text host acts seed peak lose

-- the value of a whole script
unfoldable pub script_text : Script → Data
script_text s = object (with field.Commands (list command_text s.commands) (with field.Rfnoc (whole s.version) no_members))
