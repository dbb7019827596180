-- By which port a management packet leaves a node, and which packets ask this of nodes.
use Rattle.std.specs.Prelude.{◌==◌, List, Option, None, Some, fold, if◌then◌else◌}
use Rattle.chdr_words.specs.Operation.{operation_of}
use Rattle.chdr_words.specs.declared.management.Management.{Management}
use Rattle.chdr_words.specs.declared.management.MgmtOp.{MgmtOp}
use Rattle.chdr_words.specs.declared.operation.Operation.{Operation}
use Rattle.chdr_words.specs.declared.operation.Operation.TheVariants as op
use Rattle.chdr_packets.specs.declared.packet.Body.{Body}
use Rattle.chdr_packets.specs.declared.packet.Body.TheVariants as body
use Rattle.chdr_packets.specs.declared.packet.Packet.{Packet}
use Rattle.net_nodes.specs.Perform.{exit_by}
use Rattle.net_nodes.specs.declared.site.Done.{Done}
use Rattle.net_nodes.specs.declared.site.Done.TheVariants as done
use Rattle.net_nodes.specs.declared.site.Site.{Site}

-- the exit of a packet after one more operation
abbrev pub exit_after : Site → Done → Operation → Done
exit_after site exit op.Nop = exit
exit_after site exit op.Advertise = exit
exit_after site exit (op.SelectDest port) = exit_by site port
exit_after site exit op.Return = done.Return
exit_after site exit op.InfoReq = exit
exit_after site exit (op.InfoResp info) = exit
exit_after site exit (op.CfgWrite cfg) = exit
exit_after site exit (op.CfgRead addr) = exit
exit_after site exit (op.CfgReadResp cfg) = exit
exit_after site exit (op.Other code) = exit

-- the exit of a hop's operations
abbrev pub exit_of_hop : Site → List MgmtOp → Done
exit_of_hop site ops = fold (λ exit word. exit_after site exit (operation_of word)) done.Dead ops

-- what a packet with this body asks of the nodes on its way: a management packet for no EPID
abbrev pub walking_of : Packet → Body → Option Management
walking_of p (body.Samples time payload) = None
walking_of p (body.Status status) = None
walking_of p (body.Command command) = None
walking_of p (body.Control control) = None
walking_of p (body.Management m) = if p.dst.0 == 0 then Some m else None
