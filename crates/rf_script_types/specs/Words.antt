-- The words of the language: how each is spelled, and which one a text is.
use Rattle.std.specs.Prelude.{ℕ, List, [], if◌then◌else◌, Option, None, Some, codes}
use Rattle.std.specs.Str.{bytes_eq}
use Rattle.rf_script_types.specs.declared.words.Verb.{Verb}
use Rattle.rf_script_types.specs.declared.words.Verb.TheVariants as verb
use Rattle.rf_script_types.specs.declared.words.NodeWord.{NodeWord}
use Rattle.rf_script_types.specs.declared.words.NodeWord.TheVariants as node_word
use Rattle.rf_script_types.specs.declared.words.KindWord.{KindWord}
use Rattle.rf_script_types.specs.declared.words.KindWord.TheVariants as kind_word
use Rattle.rf_script_types.specs.declared.words.Sort.{Sort}
use Rattle.rf_script_types.specs.declared.words.Sort.TheVariants as sort
use Rattle.rf_script_types.specs.declared.words.ActWord.{ActWord}
use Rattle.rf_script_types.specs.declared.words.ActWord.TheVariants as act_word
use Rattle.chdr_words.specs.declared.control.CtrlOp.{CtrlOp}
use Rattle.chdr_words.specs.declared.control.CtrlOp.TheVariants as op
use Rattle.graph_core.specs.declared.place.Side.{Side}
use Rattle.graph_core.specs.declared.place.Side.TheVariants as side
use Rattle.graph_core.specs.declared.place.Prop.{Prop}
use Rattle.graph_core.specs.declared.place.Prop.TheVariants as property
use Rattle.stream_endpoint.specs.declared.flow.Policy.{Policy}
use Rattle.stream_endpoint.specs.declared.flow.Policy.TheVariants as policy

abbrev pub verb_name : Verb → List ℕ
verb_name verb.Net = codes "net"
verb_name verb.Discover = codes "discover"
verb_name verb.Route = codes "route"
verb_name verb.Control = codes "control"
verb_name verb.Unload = codes "unload"
verb_name verb.Block = codes "block"
verb_name verb.Connect = codes "connect"
verb_name verb.Set = codes "set"
verb_name verb.Commit = codes "commit"
verb_name verb.Run = codes "run"
verb_name verb.Twin = codes "twin"
verb_name verb.Duplex = codes "duplex"

unfoldable pub verb_of : List ℕ → Option Verb
verb_of text = if bytes_eq text (verb_name verb.Net) then Some verb.Net
    else if bytes_eq text (verb_name verb.Discover) then Some verb.Discover
    else if bytes_eq text (verb_name verb.Route) then Some verb.Route
    else if bytes_eq text (verb_name verb.Control) then Some verb.Control
    else if bytes_eq text (verb_name verb.Unload) then Some verb.Unload
    else if bytes_eq text (verb_name verb.Block) then Some verb.Block
    else if bytes_eq text (verb_name verb.Connect) then Some verb.Connect
    else if bytes_eq text (verb_name verb.Set) then Some verb.Set
    else if bytes_eq text (verb_name verb.Commit) then Some verb.Commit
    else if bytes_eq text (verb_name verb.Run) then Some verb.Run
    else if bytes_eq text (verb_name verb.Twin) then Some verb.Twin
    else if bytes_eq text (verb_name verb.Duplex) then Some verb.Duplex
    else None

abbrev pub node_word_name : NodeWord → List ℕ
node_word_name node_word.Crossbar = codes "xbar"
node_word_name node_word.Adapter = codes "adapter"
node_word_name node_word.Host = codes "host"
node_word_name node_word.Endpoint = codes "endpoint"

unfoldable pub node_word_of : List ℕ → Option NodeWord
node_word_of text = if bytes_eq text (node_word_name node_word.Crossbar) then Some node_word.Crossbar
    else if bytes_eq text (node_word_name node_word.Adapter) then Some node_word.Adapter
    else if bytes_eq text (node_word_name node_word.Host) then Some node_word.Host
    else if bytes_eq text (node_word_name node_word.Endpoint) then Some node_word.Endpoint
    else None

abbrev pub kind_word_name : KindWord → List ℕ
kind_word_name kind_word.Tx = codes "tx"
kind_word_name kind_word.Rx = codes "rx"
kind_word_name kind_word.Fifo = codes "fifo"
kind_word_name kind_word.Split = codes "split"
kind_word_name kind_word.Keep = codes "keep"
kind_word_name kind_word.Repeat = codes "repeat"
kind_word_name kind_word.Replay = codes "replay"
kind_word_name kind_word.Switch = codes "switch"
kind_word_name kind_word.Sink = codes "sink"

unfoldable pub kind_word_of : List ℕ → Option KindWord
kind_word_of text = if bytes_eq text (kind_word_name kind_word.Tx) then Some kind_word.Tx
    else if bytes_eq text (kind_word_name kind_word.Rx) then Some kind_word.Rx
    else if bytes_eq text (kind_word_name kind_word.Fifo) then Some kind_word.Fifo
    else if bytes_eq text (kind_word_name kind_word.Split) then Some kind_word.Split
    else if bytes_eq text (kind_word_name kind_word.Keep) then Some kind_word.Keep
    else if bytes_eq text (kind_word_name kind_word.Repeat) then Some kind_word.Repeat
    else if bytes_eq text (kind_word_name kind_word.Replay) then Some kind_word.Replay
    else if bytes_eq text (kind_word_name kind_word.Switch) then Some kind_word.Switch
    else if bytes_eq text (kind_word_name kind_word.Sink) then Some kind_word.Sink
    else None

abbrev pub sort_name : Sort → List ℕ
sort_name sort.Samples = codes "data"
sort_name sort.Status = codes "status"
sort_name sort.Command = codes "command"
sort_name sort.Request = codes "request"
sort_name sort.Answer = codes "answer"

unfoldable pub sort_of : List ℕ → Option Sort
sort_of text = if bytes_eq text (sort_name sort.Samples) then Some sort.Samples
    else if bytes_eq text (sort_name sort.Status) then Some sort.Status
    else if bytes_eq text (sort_name sort.Command) then Some sort.Command
    else if bytes_eq text (sort_name sort.Request) then Some sort.Request
    else if bytes_eq text (sort_name sort.Answer) then Some sort.Answer
    else None

abbrev pub act_word_name : ActWord → List ℕ
act_word_name act_word.Control = codes "control"
act_word_name act_word.Unload = codes "unload"
act_word_name act_word.Move = codes "move"

unfoldable pub act_word_of : List ℕ → Option ActWord
act_word_of text = if bytes_eq text (act_word_name act_word.Control) then Some act_word.Control
    else if bytes_eq text (act_word_name act_word.Unload) then Some act_word.Unload
    else if bytes_eq text (act_word_name act_word.Move) then Some act_word.Move
    else None

abbrev pub op_name : CtrlOp → List ℕ
op_name op.Sleep = codes "SLEEP"
op_name op.Write = codes "WRITE"
op_name op.Read = codes "READ"
op_name op.ReadWrite = codes "READ_WRITE"
op_name op.BlockWrite = codes "BLOCK_WRITE"
op_name op.BlockRead = codes "BLOCK_READ"
op_name op.Poll = codes "POLL"
op_name (op.Other code) = []
op_name (op.User code) = []

unfoldable pub op_of : List ℕ → Option CtrlOp
op_of text = if bytes_eq text (op_name op.Sleep) then Some op.Sleep
    else if bytes_eq text (op_name op.Write) then Some op.Write
    else if bytes_eq text (op_name op.Read) then Some op.Read
    else if bytes_eq text (op_name op.ReadWrite) then Some op.ReadWrite
    else if bytes_eq text (op_name op.BlockWrite) then Some op.BlockWrite
    else if bytes_eq text (op_name op.BlockRead) then Some op.BlockRead
    else if bytes_eq text (op_name op.Poll) then Some op.Poll
    else None

abbrev pub side_name : Side → List ℕ
side_name side.Into = codes "in"
side_name side.Out = codes "out"

unfoldable pub side_of : List ℕ → Option Side
side_of text = if bytes_eq text (side_name side.Into) then Some side.Into
    else if bytes_eq text (side_name side.Out) then Some side.Out
    else None

abbrev pub property_name : Prop → List ℕ
property_name property.Rate = codes "rate"
property_name property.Item = codes "item"
property_name property.Spp = codes "spp"

unfoldable pub property_of : List ℕ → Option Prop
property_of text = if bytes_eq text (property_name property.Rate) then Some property.Rate
    else if bytes_eq text (property_name property.Item) then Some property.Item
    else if bytes_eq text (property_name property.Spp) then Some property.Spp
    else None

abbrev pub policy_name : Policy → List ℕ
policy_name policy.Auto = codes "auto"
policy_name policy.Off = codes "off"

unfoldable pub policy_of : List ℕ → Option Policy
policy_of text = if bytes_eq text (policy_name policy.Auto) then Some policy.Auto
    else if bytes_eq text (policy_name policy.Off) then Some policy.Off
    else None
