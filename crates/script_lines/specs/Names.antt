-- The names of codes in a report; a code without a name prints as its number behind a word.
use Rattle.std.specs.Prelude.{ℕ, codes, decimal, List, Option, None, Some}
use Rattle.chdr_words.specs.declared.command.CmdOp.{CmdOp}
use Rattle.chdr_words.specs.declared.command.CmdOp.TheVariants as commands
use Rattle.chdr_words.specs.declared.control.CtrlStatus.{CtrlStatus}
use Rattle.chdr_words.specs.declared.control.CtrlStatus.TheVariants as answers
use Rattle.chdr_words.specs.declared.node_info.NodeKind.{NodeKind}
use Rattle.chdr_words.specs.declared.node_info.NodeKind.TheVariants as nodes
use Rattle.chdr_words.specs.declared.epid.Epid.{Epid}
use Rattle.block_library.specs.declared.kind.BlockKind.{BlockKind}
use Rattle.block_library.specs.declared.kind.BlockKind.TheVariants as kinds
use Rattle.rf_script_types.specs.declared.words.KindWord.TheVariants as words
use Rattle.rf_script_types.specs.Words.{kind_word_name}
use Rattle.script_lines.specs.Page.{◌&◌}

-- what a stream command asks
abbrev pub cmd_op_text : CmdOp → List ℕ
cmd_op_text commands.Init = codes "INIT"
cmd_op_text commands.Ping = codes "PING"
cmd_op_text commands.Resync = codes "RESYNC"
cmd_op_text (commands.Other n) = codes "OTHER" & decimal n

-- the status of an acknowledgement
abbrev pub ctrl_status_text : CtrlStatus → List ℕ
ctrl_status_text answers.Okay = codes "OKAY"
ctrl_status_text answers.CmdErr = codes "CMDERR"
ctrl_status_text answers.TsErr = codes "TSERR"
ctrl_status_text answers.Warning = codes "WARNING"

-- what a node is
abbrev pub node_kind_text : NodeKind → List ℕ
node_kind_text nodes.Crossbar = codes "crossbar"
node_kind_text nodes.Endpoint = codes "endpoint"
node_kind_text nodes.Transport = codes "transport"
node_kind_text (nodes.Other n) = codes "OTHER" & decimal n

-- the kind of a block, as a script spells it
abbrev pub kind_text : BlockKind → List ℕ
kind_text kinds.Tx = kind_word_name words.Tx
kind_text kinds.Rx = kind_word_name words.Rx
kind_text kinds.Fifo = kind_word_name words.Fifo
kind_text kinds.Split = kind_word_name words.Split
kind_text (kinds.Keep n) = kind_word_name words.Keep
kind_text (kinds.Repeat n) = kind_word_name words.Repeat
kind_text (kinds.Replay n) = kind_word_name words.Replay
kind_text (kinds.Switch n) = kind_word_name words.Switch
kind_text kinds.Sink = kind_word_name words.Sink

-- the text of a thing, where it is there
abbrev pub some_text : {X : Type 0} → (X → List ℕ) → Option X → List ℕ
some_text f None = codes ""
some_text f (Some x) = f x

-- the EPID of a stream's end
abbrev pub epid_text : Option Epid → List ℕ
epid_text end = some_text (λ epid. decimal epid.0) end

-- a sample, where there is one
abbrev pub sample_text : Option ℕ → List ℕ
sample_text None = codes "-"
sample_text (Some n) = decimal n
