-- The packets of writes, by the steps of their way.
use Rattle.std.specs.Prelude.{List, [], ◌∷◌, ◌++◌, drop, map}
use Rattle.chdr_packets.specs.declared.packet.Packet.{Packet}
use Rattle.chdr_words.specs.declared.epid.Epid.{Epid}
use Rattle.chdr_words.specs.declared.management.MgmtOp.{MgmtOp}
use Rattle.net_walks.specs.Walks.{collector, onward, walker}
use Rattle.net_writes.specs.Crossings.{Crossing, writing}
use Rattle.route_writes.specs.declared.packets.Entry.{Entry}
use Rattle.route_writes.specs.declared.steps.Step.{Step}

-- two entries of one node
abbrev pub crossing_of : Entry → Entry → Crossing
crossing_of a b = record { a = a.epid; to_a = a.port; b = b.epid; to_b = b.port }

-- the hop at a node that a walker leaves by this step
abbrev pub onward_by : Step → List MgmtOp
onward_by step = onward step.port

-- the hops of a write behind these steps
abbrev pub hops_by : List Step → Crossing → List (List MgmtOp)
hops_by steps it = map onward_by steps ++ writing it ∷ collector ∷ []

-- a write that goes by these steps; the first one leaves the host, which performs no hop
abbrev pub write_by : Epid → List Step → Crossing → Packet
write_by src steps it = walker src (hops_by (drop 1 steps) it)
