-- What a call that takes memory answers.
use Rattle.std.specs.Prelude.{◌≡◌, Result, Ok, Err}
use Rattle.chdr_words.specs.declared.fault.MsgFault.{MsgFault}
use Rattle.chdr_words.specs.declared.fault.MsgFault.TheVariants.{BadStatusLength, BadCommandLength, BadControlLength, BadManagement, Memory}

-- the answer is what reading gives, unless memory ran out
abbrev pub Reads : {X : Type 0} → Result X MsgFault → Result X MsgFault → Type 0
Reads (Ok x) read = read ≡ Ok x
Reads (Err BadStatusLength) read = read ≡ Err BadStatusLength
Reads (Err BadCommandLength) read = read ≡ Err BadCommandLength
Reads (Err BadControlLength) read = read ≡ Err BadControlLength
Reads (Err BadManagement) read = read ≡ Err BadManagement
Reads (Err Memory) read = Unit {0}
