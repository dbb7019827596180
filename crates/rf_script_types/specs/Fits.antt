-- Which scripts the language has: each number in its range, each list within its bounds.
use Rattle.std.specs.Prelude.{◌≡◌, ◌≢◌, ◌⊎◌, ℕ, ◌%◌, ◌≤◌, List, [], ◌∷◌, ◌++◌, length, Option, None, Some, IfSome, false}
use Rattle.chdr_words.specs.declared.control.Control.{Control}
use Rattle.chdr_words.specs.declared.control.CtrlOp.{CtrlOp}
use Rattle.chdr_words.specs.declared.control.CtrlOp.TheVariants as ctrl_op
use Rattle.chdr_words.specs.declared.control.CtrlStatus.TheVariants.{Okay}
use Rattle.chdr_words.specs.declared.epid.Epid.{Epid}
use Rattle.block_library.specs.declared.kind.BlockKind.{BlockKind}
use Rattle.block_library.specs.declared.kind.BlockKind.TheVariants as kind
use Rattle.graph_core.specs.declared.place.Prop.{Prop}
use Rattle.graph_core.specs.declared.place.Prop.TheVariants.{Rate, Item, Spp}
use Rattle.graph_core.specs.declared.place.Side.TheVariants.{Into, Out}
use Rattle.graph_core.specs.Ports.{port_count}
use Rattle.net_topology.specs.declared.plan.NodePlan.{NodePlan}
use Rattle.net_topology.specs.declared.plan.NodePlan.TheVariants as node
use Rattle.net_topology.specs.declared.plan.LinkPlan.{LinkPlan}
use Rattle.net_faults.specs.declared.fault.Fault.{Fault}
use Rattle.net_faults.specs.declared.fault.Fault.TheVariants as fault
use Rattle.stream_endpoint.specs.Flow.{IsValid}
use Rattle.rf_script_types.specs.declared.act.Act.{Act}
use Rattle.rf_script_types.specs.declared.act.Act.TheVariants as act
use Rattle.rf_script_types.specs.declared.act.Due.{Due}
use Rattle.rf_script_types.specs.declared.command.Script.{Script}
use Rattle.rf_script_types.specs.declared.command.ScriptCommand.{ScriptCommand}
use Rattle.rf_script_types.specs.declared.command.ScriptCommand.TheVariants as command
use Rattle.rf_script_types.specs.declared.table.Number.{Number}
use Rattle.rf_script_types.specs.declared.table.TheConstants.{ROOM, PORTS, NODE_EPID, BANK, LINK_NODE, LINK_PORT, HOST, ROUTE_FROM, TO, PORT, ADDR, WORD, ENABLES, SLOT, KEEP, TIMES, SWITCH, IN_EPID, OUT_EPID, PACKETS, TIME, FROM_PORT, TO_PORT, START, SET_BLOCK, SET_PORT, RATE, SPP, SEED, CUT, LOSE_STREAM, LOSE_PLACE, ACT_STREAM, ACT_TAKEN, ACT_TO, ACT_PORT, ACT_ADDR, ACT_WORD, ACT_SLOT}
use Rattle.rf_script_types.specs.Limits.{command_limit, node_limit, lose_limit}

-- a number is in its range
abbrev pub IsIn : Number → ℕ → Type 0
IsIn range n = (range.low ≤ n) × (n ≤ range.high)

-- every item does
abbrev pub Each : {A : Type 0} → (A → Type 0) → List A → Type 0
Each P [] = Unit {0}
Each P (x ∷ xs) = P x × Each P xs

abbrev pub FitsNode : NodePlan → Type 0
FitsNode (node.Crossbar ports) = IsIn PORTS ports
FitsNode node.Adapter = Unit {0}
FitsNode (node.Host epid) = IsIn NODE_EPID epid.0
FitsNode (node.Endpoint epid bank) = IsIn NODE_EPID epid.0 × IfSome bank (IsIn BANK)

abbrev pub FitsLink : LinkPlan → Type 0
FitsLink link = IsIn LINK_NODE link.a × IsIn LINK_PORT link.a_port × IsIn LINK_NODE link.b × IsIn LINK_PORT link.b_port

-- the packets that a run, a host's command and a duplex may lose
abbrev pub FitsStreamFault : Fault → Type 0
FitsStreamFault (fault.Samples s k) = IsIn LOSE_STREAM s × IsIn LOSE_PLACE k
FitsStreamFault (fault.Status s k) = IsIn LOSE_STREAM s × IsIn LOSE_PLACE k
FitsStreamFault (fault.Command s k) = IsIn LOSE_STREAM s × IsIn LOSE_PLACE k
FitsStreamFault (fault.Request k) = ⊥
FitsStreamFault (fault.Answer k) = ⊥

abbrev pub FitsPlainFault : Fault → Type 0
FitsPlainFault (fault.Samples s k) = ⊥
FitsPlainFault (fault.Status s k) = ⊥
FitsPlainFault (fault.Command s k) = ⊥
FitsPlainFault (fault.Request k) = IsIn LOSE_PLACE k
FitsPlainFault (fault.Answer k) = IsIn LOSE_PLACE k

abbrev pub FitsAnyFault : Fault → Type 0
FitsAnyFault (fault.Samples s k) = IsIn LOSE_STREAM s × IsIn LOSE_PLACE k
FitsAnyFault (fault.Status s k) = IsIn LOSE_STREAM s × IsIn LOSE_PLACE k
FitsAnyFault (fault.Command s k) = IsIn LOSE_STREAM s × IsIn LOSE_PLACE k
FitsAnyFault (fault.Request k) = IsIn LOSE_PLACE k
FitsAnyFault (fault.Answer k) = IsIn LOSE_PLACE k

abbrev pub FitsLose : ℕ → (Fault → Type 0) → List Fault → Type 0
FitsLose version P lose = (length lose ≤ lose_limit version) × Each P lose

-- one of the operations that have a word
abbrev pub IsNamed : CtrlOp → Type 0
IsNamed ctrl_op.Sleep = Unit {0}
IsNamed ctrl_op.Write = Unit {0}
IsNamed ctrl_op.Read = Unit {0}
IsNamed ctrl_op.ReadWrite = Unit {0}
IsNamed ctrl_op.BlockWrite = Unit {0}
IsNamed ctrl_op.BlockRead = Unit {0}
IsNamed ctrl_op.Poll = Unit {0}
IsNamed (ctrl_op.Other code) = ⊥
IsNamed (ctrl_op.User code) = ⊥

abbrev pub FitsWords : Number → List ℕ → Type 0
FitsWords range words = (length words ≤ 15) × Each (IsIn range) words

abbrev pub FitsKindNumber : BlockKind → Type 0
FitsKindNumber kind.Tx = Unit {0}
FitsKindNumber kind.Rx = Unit {0}
FitsKindNumber kind.Fifo = Unit {0}
FitsKindNumber kind.Split = Unit {0}
FitsKindNumber (kind.Keep n) = IsIn KEEP n
FitsKindNumber (kind.Repeat n) = IsIn TIMES n
FitsKindNumber (kind.Replay n) = IsIn TIMES n
FitsKindNumber (kind.Switch n) = IsIn SWITCH n
FitsKindNumber kind.Sink = Unit {0}

-- the packets and the timestamp, which only a tx has
abbrev pub FitsCount : BlockKind → ℕ → Option ℕ → Type 0
FitsCount kind.Tx packets time = IsIn PACKETS packets × IfSome time (IsIn TIME)
FitsCount kind.Rx packets time = (packets ≡ 0) × (time ≡ None)
FitsCount kind.Fifo packets time = (packets ≡ 0) × (time ≡ None)
FitsCount kind.Split packets time = (packets ≡ 0) × (time ≡ None)
FitsCount (kind.Keep n) packets time = (packets ≡ 0) × (time ≡ None)
FitsCount (kind.Repeat n) packets time = (packets ≡ 0) × (time ≡ None)
FitsCount (kind.Replay n) packets time = (packets ≡ 0) × (time ≡ None)
FitsCount (kind.Switch n) packets time = (packets ≡ 0) × (time ≡ None)
FitsCount kind.Sink packets time = (packets ≡ 0) × (time ≡ None)

abbrev pub FitsEnds : Number → ℕ → List Epid → Type 0
FitsEnds range count ends = (length ends ≡ count) × Each (λ epid. IsIn range epid.0) ends

abbrev pub FitsValue : Prop → ℕ → Type 0
FitsValue Rate value = IsIn RATE value
FitsValue Item value = (value ≡ 4) ⊎ (value ≡ 8)
FitsValue Spp value = IsIn SPP value

abbrev pub FitsDue : Due → Type 0
FitsDue due = IsIn ACT_STREAM due.stream × IsIn ACT_TAKEN due.taken

-- a control act's request is that of a control command of the host, with all enables and the act's number
pub record FitsRequest (host : Epid) (number : ℕ) (request : Control) : Type 0 where
  pub source : request.src ≡ host
  pub ack : request.ack ≡ false
  pub time : request.time ≡ None
  pub seq : request.seq ≡ number
  pub src_port : request.src_port ≡ 0
  pub dst_port : IsIn ACT_PORT request.dst_port
  pub status : request.status ≡ Okay
  pub op : IsNamed request.op
  pub enables : request.enables ≡ 15
  pub addr : IsIn ACT_ADDR request.addr
  pub words : FitsWords ACT_WORD request.words

abbrev pub FitsAct : Epid → ℕ → Act → Type 0
FitsAct host number (act.Control due to request) = FitsDue due × IsIn ACT_TO to.0 × FitsRequest host number request
FitsAct host number (act.Unload due port) = FitsDue due × IsIn ACT_SLOT port
FitsAct host number (act.Move due from to) = FitsDue due × IsIn ACT_SLOT from × IsIn ACT_SLOT to × (from ≢ to)

-- the acts behind those that are done; an act's number counts from 0, modulo 64
abbrev pub FitsActs : Epid → List Act → List Act → Type 0
FitsActs host done [] = Unit {0}
FitsActs host done (one ∷ acts) = FitsAct host (length done % 64) one × FitsActs host (done ++ one ∷ []) acts

pub record FitsNet (version : ℕ) (nodes : List NodePlan) (links : List LinkPlan) (room limit : ℕ) : Type 0 where
  pub some : 1 ≤ length nodes
  pub each_node : Each FitsNode nodes
  pub each_link : Each FitsLink links
  pub room_is_in : IsIn ROOM room
  pub limit_is : limit ≡ node_limit version

pub record FitsControl (version : ℕ) (host to : Epid) (port : ℕ) (op : CtrlOp) (addr : ℕ) (words : List ℕ) (enables : ℕ) (lose : List Fault) : Type 0 where
  pub host_is_in : IsIn HOST host.0
  pub to_is_in : IsIn TO to.0
  pub port_is_in : IsIn PORT port
  pub op_is_named : IsNamed op
  pub addr_is_in : IsIn ADDR addr
  pub words_fit : FitsWords WORD words
  pub enables_are_in : IsIn ENABLES enables
  pub lose_fits : FitsLose version FitsPlainFault lose

pub record FitsBlock (k : BlockKind) (ins outs : List Epid) (packets : ℕ) (time : Option ℕ) : Type 0 where
  pub number_fits : FitsKindNumber k
  pub ins_fit : FitsEnds IN_EPID (port_count Into k) ins
  pub outs_fit : FitsEnds OUT_EPID (port_count Out k) outs
  pub count_fits : FitsCount k packets time

-- a command that a script of this version may have
abbrev pub FitsCommand : ℕ → ScriptCommand → Type 0
FitsCommand version (command.Net nodes links room routed limit) = FitsNet version nodes links room limit
FitsCommand version (command.Discover host lose) = IsIn HOST host.0 × FitsLose version FitsPlainFault lose
FitsCommand version (command.Route host from to lose) =
    IsIn HOST host.0 × IsIn ROUTE_FROM from.0 × IsIn TO to.0 × (to.0 ≢ from.0) × FitsLose version FitsPlainFault lose
FitsCommand version (command.Control host to port op addr words enables lose) = FitsControl version host to port op addr words enables lose
FitsCommand version (command.Unload port) = IsIn SLOT port
FitsCommand version (command.Block k ins outs packets time) = FitsBlock k ins outs packets time
FitsCommand version (command.Connect from to flow start policy) =
    IsIn FROM_PORT from.block × IsIn FROM_PORT from.port × IsIn TO_PORT to.block × IsIn TO_PORT to.port × IsValid flow × IsIn START start
FitsCommand version (command.Set at value) = IsIn SET_BLOCK at.block × IsIn SET_PORT at.port × FitsValue at.prop value
FitsCommand version command.Commit = Unit {0}
FitsCommand version (command.Run seed trace peak lose) = IsIn SEED seed × FitsLose version FitsStreamFault lose
FitsCommand version (command.Twin cut peak lose) = (version ≡ 2) × IsIn CUT cut × FitsLose version FitsStreamFault lose
FitsCommand version (command.Duplex host acts seed peak lose) =
    (version ≡ 2) × IsIn HOST host.0 × (1 ≤ length acts) × (length acts ≤ 64) × FitsActs host [] acts × IsIn SEED seed × FitsLose version FitsAnyFault lose

-- a script of the language; its text may still be too long to be read
pub record FitsScript (script : Script) : Type 0 where
  pub version : (script.version ≡ 1) ⊎ (script.version ≡ 2)
  pub few : length script.commands ≤ command_limit script.version
  pub commands : Each (FitsCommand script.version) script.commands
