-- How many answers the operations of a hop ask.
use Rattle.std.specs.Prelude.{ℕ, ◌+◌, List, [], ◌∷◌}
use Rattle.chdr_words.specs.Operation.{operation_of}
use Rattle.chdr_words.specs.declared.management.MgmtOp.{MgmtOp}
use Rattle.chdr_words.specs.declared.operation.Operation.{Operation}
use Rattle.chdr_words.specs.declared.operation.Operation.TheVariants.{Nop, Advertise, SelectDest, Return, InfoReq, InfoResp, CfgWrite, CfgRead, CfgReadResp, Other}

-- how many answers an operation asks
abbrev pub asked : Operation → ℕ
asked Nop = 0
asked Advertise = 0
asked (SelectDest port) = 0
asked Return = 0
asked InfoReq = 1
asked (InfoResp info) = 0
asked (CfgWrite cfg) = 0
asked (CfgRead addr) = 1
asked (CfgReadResp cfg) = 0
asked (Other code) = 0

-- how many answers the operations of a hop ask
abbrev pub asked_in : List MgmtOp → ℕ
asked_in [] = 0
asked_in (op ∷ ops) = asked (operation_of op) + asked_in ops
