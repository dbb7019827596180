-- The probes of a walk: what is asked, what follows, and what they find.
use Rattle.std.specs.Prelude.{◌≡◌, ℕ, ◌&&◌, not, Bool, List, [], ◌∷◌, ◌++◌, drop, map, Option, None, is_none, option_map, filter_map, if◌then◌else◌}
use Rattle.std.specs.List.{count_by, filter, flat_map, fold}
use Rattle.chdr_packets.specs.declared.packet.Packet.{Packet}
use Rattle.chdr_words.specs.declared.epid.Epid.{Epid}
use Rattle.net_topology.specs.Links.{link_at, start_port}
use Rattle.net_topology.specs.Parts.{way_of}
use Rattle.net_topology.specs.declared.plan.Plan.{Plan}
use Rattle.net_machine.specs.declared.event.Event.{Event}
use Rattle.net_machine.specs.Moves.{after_journal, answered, asks}
use Rattle.net_machine.specs.State.{State}
use Rattle.net_lone.specs.Runs.{IsFirst, has_loss}
use Rattle.net_walks.specs.Walks.{collector, inquiry, onward, walker}
use Rattle.topology_walk.specs.Nodes.{NodePort, first_found, found_over, ports_behind}
use Rattle.walk_books.specs.declared.found.Found.{Found}
use Rattle.walk_books.specs.declared.found.FoundNode.{FoundNode}
use Rattle.walk_books.specs.declared.found.LostPort.{LostPort}

-- ---- packets

-- a probe that leaves the nodes on its way by these ports; the first one is the host's, where it performs no hop
abbrev pub probe_over : Epid → List ℕ → Packet
probe_over src ports = walker src (map onward (drop 1 ports) ++ inquiry ∷ collector ∷ [])

-- the ports by which a packet leaves nodes, from host x to what is behind a port of a node
abbrev pub ports_to : Plan → ℕ → ℕ → ℕ → List ℕ
ports_to tree x node port = map (start_port tree.links) (way_of tree.links x node) ++ port ∷ []

-- ---- one after another

-- a probe that was asked: the port behind which it looks, and the journal that followed
pub record Probe : Type 0 where
  pub node : ℕ
  pub port : ℕ
  pub journal : List Event

abbrev pub packet_of : Plan → Epid → ℕ → Probe → Packet
packet_of tree src x probe = probe_over src (ports_to tree x probe.node probe.port)

-- host x asked a probe, its journal happened, and the answer was taken out
abbrev pub probed : Plan → Epid → ℕ → State → Probe → State
probed tree src x w probe = answered x (after_journal (asks x (packet_of tree src x probe) w) probe.journal)

-- all of these were asked
abbrev pub probed_all : Plan → Epid → ℕ → State → List Probe → State
probed_all tree src x w probes = fold (probed tree src x) w probes

-- each journal is what happens first, again and again, where its probe is asked in the state that the one before left
abbrev pub AreFirst : Plan → Epid → ℕ → State → List Probe → Type 0
AreFirst tree src x w [] = Unit {0}
AreFirst tree src x w (probe ∷ probes) =
    IsFirst (asks x (packet_of tree src x probe) w) probe.journal × AreFirst tree src x (probed tree src x w probe) probes

-- the journals of probes, end to end
abbrev pub journal_of : List Probe → List Event
journal_of probes = flat_map (λ (probe : Probe). probe.journal) probes

-- ---- what they find

abbrev pub place_of : Probe → NodePort
place_of probe = record { node = probe.node; port = probe.port }

abbrev pub lost_of : Probe → LostPort
lost_of probe = record { node = probe.node; port = probe.port }

-- the probe or its answer was lost
abbrev pub is_lost : Probe → Bool
is_lost probe = has_loss probe.journal

-- the node that a probe finds
abbrev pub finding : Plan → Probe → Option FoundNode
finding tree probe = if is_lost probe then None else option_map (found_over tree) (link_at tree.links probe.node probe.port)

-- it finds a port without a link
abbrev pub finds_bare : Plan → Probe → Bool
finds_bare tree probe = not (is_lost probe) && is_none (link_at tree.links probe.node probe.port)

-- The nodes are the host's and those that probes find, and there is one probe for each port of each node, in order, but
-- for that by which the node was found. A port without a link counts as bare, and one whose probe was lost as lost.
pub record IsFoundBy (tree : Plan) (x : ℕ) (probes : List Probe) (found : Found) : Type 0 where
  pub asked : map place_of probes ≡ flat_map ports_behind found.nodes
  pub nodes : found.nodes ≡ first_found tree x ∷ filter_map (finding tree) probes
  pub bare : found.bare ≡ count_by (finds_bare tree) probes
  pub lost : found.lost ≡ map lost_of (filter is_lost probes)
