-- The names of codes in a listing; a code without a name prints as its number behind a word.
use Rattle.std.specs.Prelude.{ℕ, codes, decimal, List, ◌++◌}
use Rattle.chdr_words.specs.declared.status.StatusCode.{StatusCode}
use Rattle.chdr_words.specs.declared.status.StatusCode.TheVariants as statuses
use Rattle.chdr_words.specs.declared.command.CmdOp.{CmdOp}
use Rattle.chdr_words.specs.declared.command.CmdOp.TheVariants as commands
use Rattle.chdr_words.specs.declared.control.CtrlOp.{CtrlOp}
use Rattle.chdr_words.specs.declared.control.CtrlOp.TheVariants as controls
use Rattle.chdr_words.specs.declared.control.CtrlStatus.{CtrlStatus}
use Rattle.chdr_words.specs.declared.control.CtrlStatus.TheVariants as answers

infixr 45 ◌&◌
-- one text after another
abbrev pub ◌&◌ : List ℕ → List ℕ → List ℕ
xs & ys = xs ++ ys

-- what a stream status reports
abbrev pub status_code_text : StatusCode → List ℕ
status_code_text statuses.Okay = codes "OKAY"
status_code_text statuses.CmdErr = codes "CMDERR"
status_code_text statuses.SeqErr = codes "SEQERR"
status_code_text statuses.DataErr = codes "DATAERR"
status_code_text statuses.RtErr = codes "RTERR"
status_code_text (statuses.Other n) = codes "OTHER" & decimal n

-- what a stream command asks
abbrev pub cmd_op_text : CmdOp → List ℕ
cmd_op_text commands.Init = codes "INIT"
cmd_op_text commands.Ping = codes "PING"
cmd_op_text commands.Resync = codes "RESYNC"
cmd_op_text (commands.Other n) = codes "OTHER" & decimal n

-- a control operation
abbrev pub ctrl_op_text : CtrlOp → List ℕ
ctrl_op_text controls.Sleep = codes "SLEEP"
ctrl_op_text controls.Write = codes "WRITE"
ctrl_op_text controls.Read = codes "READ"
ctrl_op_text controls.ReadWrite = codes "READ_WRITE"
ctrl_op_text controls.BlockWrite = codes "BLOCK_WRITE"
ctrl_op_text controls.BlockRead = codes "BLOCK_READ"
ctrl_op_text controls.Poll = codes "POLL"
ctrl_op_text (controls.Other n) = codes "OTHER" & decimal n
ctrl_op_text (controls.User n) = codes "USER" & decimal n

-- the status of a control packet
abbrev pub ctrl_status_text : CtrlStatus → List ℕ
ctrl_status_text answers.Okay = codes "OKAY"
ctrl_status_text answers.CmdErr = codes "CMDERR"
ctrl_status_text answers.TsErr = codes "TSERR"
ctrl_status_text answers.Warning = codes "WARNING"
