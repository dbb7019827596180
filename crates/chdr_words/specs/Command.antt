-- The payload of a stream command.
use Rattle.std.specs.Prelude.{◌≡◌, ℕ, ◌<◌, ◌≤◌, ◌^◌, ◌==◌, if◌then◌else◌, List, length, Result, Ok, Err}
use Rattle.chdr_words.specs.Field.{field, word_at}
use Rattle.chdr_words.specs.declared.fault.MsgFault.{MsgFault}
use Rattle.chdr_words.specs.declared.fault.MsgFault.TheVariants.{BadCommandLength}
use Rattle.chdr_words.specs.declared.command.Command.{Command}
use Rattle.chdr_words.specs.declared.command.CmdOp.{CmdOp}
use Rattle.chdr_words.specs.declared.command.CmdOp.TheVariants.{Init, Ping, Resync, Other}

-- the codes without a name are 3 to 15
abbrev pub FitsCmdOp : CmdOp → Type 0
FitsCmdOp Init = Unit {0}
FitsCmdOp Ping = Unit {0}
FitsCmdOp Resync = Unit {0}
FitsCmdOp (Other n) = (3 ≤ n) × (n < 2 ^ 4)

-- each field fits its bits
pub record FitsCommand (c : Command) : Type 0 where
  pub packets : c.packets < 2 ^ 40
  pub op_data : c.op_data < 2 ^ 4
  pub op : FitsCmdOp c.op

-- the operation's number on the wire
abbrev pub cmd_number : CmdOp → ℕ
cmd_number Init = 0
cmd_number Ping = 1
cmd_number Resync = 2
cmd_number (Other n) = n

-- the bytes spell the command: two words, with no bit free
pub record SpellsCommand (c : Command) (bytes : List ℕ) : Type 0 where
  pub size : length bytes ≡ 16
  pub packets : field (word_at bytes 0) 63 24 ≡ c.packets
  pub op_data : field (word_at bytes 0) 23 20 ≡ c.op_data
  pub op : field (word_at bytes 0) 19 16 ≡ cmd_number c.op
  pub listed : FitsCmdOp c.op
  pub src : field (word_at bytes 0) 15 0 ≡ c.src.0
  pub bytes_counted : word_at bytes 8 ≡ c.bytes

-- the operation that a number below 16 stands for
abbrev pub cmd_op_of : ℕ → CmdOp
cmd_op_of n = if n == 0 then Init else if n == 1 then Ping else if n == 2 then Resync else Other n

-- reading: each field from its bits
abbrev pub command_of : List ℕ → Command
command_of bytes = record {
  packets = field (word_at bytes 0) 63 24;
  op_data = field (word_at bytes 0) 23 20;
  op = cmd_op_of (field (word_at bytes 0) 19 16);
  src = record { 0 = field (word_at bytes 0) 15 0 };
  bytes = word_at bytes 8;
}

-- a payload of another size is refused
abbrev pub command_read : List ℕ → Result Command MsgFault
command_read bytes = if length bytes == 16 then Ok (command_of bytes) else Err BadCommandLength
