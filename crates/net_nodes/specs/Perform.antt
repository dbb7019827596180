-- What a node does with the operations of a hop.
use Rattle.std.specs.Prelude.{◌==◌, ◌&&◌, not, ℕ, ◌-◌, ◌/◌, ◌%◌, ◌^◌, Bool, List, [], ◌∷◌, ◌++◌, length, drop, fold, slice_index_or, slice_set, nat_lt, unwrap_or, if◌then◌else◌}
use Rattle.chdr_words.specs.Operation.{operation_of, spelled_op}
use Rattle.chdr_words.specs.declared.epid.Epid.{Epid}
use Rattle.chdr_words.specs.declared.management.Management.{Management}
use Rattle.chdr_words.specs.declared.management.MgmtOp.{MgmtOp}
use Rattle.chdr_words.specs.declared.operation.Operation.{Operation}
use Rattle.chdr_words.specs.declared.operation.Operation.TheVariants as op
use Rattle.net_nodes.specs.Table.{exit_of, with_exit}
use Rattle.net_nodes.specs.declared.site.Done.{Done}
use Rattle.net_nodes.specs.declared.site.Done.TheVariants as done
use Rattle.net_nodes.specs.declared.site.Site.{Site}
use Rattle.net_nodes.specs.declared.table.Place.{Place}

-- what a hop changes: the node's table, the packet's exit and its last hop
pub record Work : Type 0 where
  pub table : List Place
  pub exit : Done
  pub last : List MgmtOp

-- a table, an exit and a last hop together
abbrev pub work_of : List Place → Done → List MgmtOp → Work
work_of table exit last = record { table = table; exit = exit; last = last }

-- the node's link bits have this port
abbrev pub has_link : ℕ → ℕ → Bool
has_link linked port = nat_lt port 32 && (linked / 2 ^ port % 2 == 1)

-- the exit by a port: a port without a link, or the port of arrival, is none
abbrev pub exit_by : Site → ℕ → Done
exit_by site port =
    if has_link site.linked port && not (port == site.arrival) then done.Forward port
    else done.NoSuchPort port

-- the answer to INFO_REQ
abbrev pub info_answer : Site → MgmtOp
info_answer site = spelled_op (op.InfoResp site.info)

-- the answer to CFG_RD_REQ: the entry's port, or 0xffffffff if there is none
abbrev pub read_answer : List Place → ℕ → MgmtOp
read_answer table addr =
    spelled_op (op.CfgReadResp (record { addr = addr; value = unwrap_or (exit_of table (record { 0 = addr })) 0xffffffff }))

-- what a node does with an operation of a packet from src
abbrev pub effect : Site → Epid → Work → Operation → Work
effect site src work op.Nop = work
effect site src work op.Advertise = record work { table = with_exit work.table src site.arrival }
effect site src work (op.SelectDest port) = record work { exit = exit_by site port }
effect site src work op.Return = record work { exit = done.Return }
effect site src work op.InfoReq = record work { last = work.last ++ info_answer site ∷ [] }
effect site src work (op.InfoResp info) = work
effect site src work (op.CfgWrite cfg) =
    if nat_lt cfg.value site.ports then record work { table = with_exit work.table (record { 0 = cfg.addr }) cfg.value } else work
effect site src work (op.CfgRead addr) =
    record work { last = work.last ++ read_answer work.table addr ∷ [] }
effect site src work (op.CfgReadResp cfg) = work
effect site src work (op.Other code) = work

-- the first hop of a packet
abbrev pub first_hop : Management → List MgmtOp
first_hop m = slice_index_or m.hops 0 []

-- its last hop
abbrev pub last_hop : Management → List MgmtOp
last_hop m = slice_index_or m.hops (length m.hops - 1) []

-- what a node does with a word of a hop
abbrev pub operated : Site → Epid → Work → MgmtOp → Work
operated site src work word = effect site src work (operation_of word)

-- what the first hop leaves: its operations are performed in order, and without an exit the packet ends
abbrev pub performed : Site → List Place → Management → Work
performed site table m =
    fold (operated site m.src) (work_of table done.Dead (last_hop m)) (first_hop m)

-- the packet without its first hop, and with this last hop
abbrev pub without_first : Management → List MgmtOp → Management
without_first m last = record m {
  hops = slice_set (drop 1 m.hops) (length m.hops - 2) last;
}
