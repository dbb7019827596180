-- The operations of a hop by their names, and the words that spell them.
use Rattle.std.specs.Prelude.{◌==◌, ℕ, ◌<◌, ◌≤◌, ◌^◌, if◌then◌else◌}
use Rattle.chdr_words.specs.Cfg.{cfg_of, cfg_payload}
use Rattle.chdr_words.specs.Field.{field}
use Rattle.chdr_words.specs.NodeInfo.{FitsInfo, info_of, info_payload}
use Rattle.chdr_words.specs.declared.management.MgmtOp.{MgmtOp}
use Rattle.chdr_words.specs.declared.operation.Operation.{Operation}
use Rattle.chdr_words.specs.declared.operation.Operation.TheVariants.{Nop, Advertise, SelectDest, Return, InfoReq, InfoResp, CfgWrite, CfgRead, CfgReadResp, Other}

-- a port fits its 10 bits, information its fields, and the codes without a name are 9 to 255
abbrev pub FitsOperation : Operation → Type 0
FitsOperation Nop = Unit {0}
FitsOperation Advertise = Unit {0}
FitsOperation (SelectDest port) = port < 2 ^ 10
FitsOperation Return = Unit {0}
FitsOperation InfoReq = Unit {0}
FitsOperation (InfoResp info) = FitsInfo info
FitsOperation (CfgWrite cfg) = Unit {0}
FitsOperation (CfgRead addr) = Unit {0}
FitsOperation (CfgReadResp cfg) = Unit {0}
FitsOperation (Other code) = (9 ≤ code) × (code < 2 ^ 8)

-- the code and payload that spell an operation; a payload without a meaning is 0
abbrev pub spelled_op : Operation → MgmtOp
spelled_op Nop = record { code = 0; payload = 0 }
spelled_op Advertise = record { code = 1; payload = 0 }
spelled_op (SelectDest port) = record { code = 2; payload = port }
spelled_op Return = record { code = 3; payload = 0 }
spelled_op InfoReq = record { code = 4; payload = 0 }
spelled_op (InfoResp info) = record { code = 5; payload = info_payload info }
spelled_op (CfgWrite cfg) = record { code = 6; payload = cfg_payload cfg }
spelled_op (CfgRead addr) = record { code = 7; payload = addr }
spelled_op (CfgReadResp cfg) = record { code = 8; payload = cfg_payload cfg }
spelled_op (Other code) = record { code = code; payload = 0 }

-- the operation that a code and payload spell; bits of the payload without a meaning aren't read
abbrev pub operation_of : MgmtOp → Operation
operation_of op =
    if op.code == 0 then Nop
    else if op.code == 1 then Advertise
    else if op.code == 2 then SelectDest (field op.payload 9 0)
    else if op.code == 3 then Return
    else if op.code == 4 then InfoReq
    else if op.code == 5 then InfoResp (info_of op.payload)
    else if op.code == 6 then CfgWrite (cfg_of op.payload)
    else if op.code == 7 then CfgRead (field op.payload 15 0)
    else if op.code == 8 then CfgReadResp (cfg_of op.payload)
    else Other op.code
