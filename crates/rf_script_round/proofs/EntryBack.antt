-- What is written of an entry of a list is read back.
use Rattle.std.proofs.Common.{◌≡◌, ℕ, ◌==◌, List, None, Some, refl}
use Rattle.std.specs.Prelude.{Ok}
use Rattle.chdr_words.specs.declared.epid.Epid.{Epid}
use Rattle.net_topology.specs.declared.plan.LinkPlan.{LinkPlan}
use Rattle.net_topology.specs.declared.plan.NodePlan.{NodePlan}
use Rattle.net_topology.specs.declared.plan.NodePlan.TheVariants.{Crossbar, Adapter, Host, Endpoint}
use Rattle.net_faults.specs.declared.fault.Fault.{Fault}
use Rattle.net_faults.specs.declared.fault.Fault.TheVariants.{Samples, Status, Command, Request, Answer}
use Rattle.rf_script_types.specs.declared.table.TheConstants.{PORTS, NODE_EPID, BANK, LINK_NODE, LINK_PORT, LOSE_STREAM, LOSE_PLACE}
use Rattle.rf_script_types.specs.Fits.{IsIn, FitsNode, FitsLink, FitsStreamFault, FitsPlainFault, FitsAnyFault}
use Rattle.rf_script_types.specs.Text.{link_text, node_text, fault_text}
use Rattle.rf_script_types.specs.Words.{sort_of, node_word_of}
use Rattle.rf_script_parts.specs.declared.net.ReadNode.{ReadNode}
use Rattle.rf_script_parts.specs.declared.scope.Named.{Named}
use Rattle.rf_script_parts.specs.Lose.{stream_entry, plain_entry, any_entry}
use Rattle.rf_script_parts.specs.Net.{node, node_word, node_name, crossbar, adapter, host, host_keys, endpoint_node, endpoint_keys, link}
use Rattle.rf_script_parts.specs.Others.{only_in}
use Rattle.rf_script_parts.specs.Value.{sized, element}
use Rattle.rf_script_round.proofs.BackLemmas.{within-in, number-back, optional-back, optional-none, either, nothing, fine}

pub link-back : (l : LinkPlan) → FitsLink l → link (link_text l) ≡ Ok l
unfolding link sized element
link-back l h = rw (within-in LINK_NODE l.a h.0, within-in LINK_PORT l.a_port h.1, within-in LINK_NODE l.b h.2, within-in LINK_PORT l.b_port h.3)

abbrev pub unnamed_node : NodePlan → ReadNode
unnamed_node plan = record { plan = plan; named = None }

crossbar-back : (version : ℕ) (names : List Named) (ports : ℕ) → IsIn PORTS ports → node version names (node_text (Crossbar ports)) ≡ Ok (unnamed_node (Crossbar ports))
unfolding node node_word node_word_of crossbar only_in
crossbar-back version names ports h = rw (number-back PORTS (node_text (Crossbar ports)) ports refl h)

adapter-back : (version : ℕ) (names : List Named) → node version names (node_text Adapter) ≡ Ok (unnamed_node Adapter)
unfolding node node_word node_word_of adapter only_in
adapter-back version names = refl

host-back : (version : ℕ) (names : List Named) (e : Epid) → IsIn NODE_EPID e.0 → node version names (node_text (Host e)) ≡ Ok (unnamed_node (Host e))
unfolding node node_word node_word_of host host_keys node_name only_in
host-back version names e h = rw (number-back NODE_EPID (node_text (Host e)) e.0 refl h, either (version == 2) nothing, either (version == 2) fine)

bare-back : (version : ℕ) (names : List Named) (e : Epid) → IsIn NODE_EPID e.0 → node version names (node_text (Endpoint e None)) ≡ Ok (unnamed_node (Endpoint e None))
unfolding node node_word node_word_of endpoint_node endpoint_keys node_name only_in
bare-back version names e h = rw (number-back NODE_EPID (node_text (Endpoint e None)) e.0 refl h, optional-none BANK (node_text (Endpoint e None)) refl, either (version == 2) nothing, either (version == 2) fine)

bank-back : (version : ℕ) (names : List Named) (e : Epid) (b : ℕ) → IsIn NODE_EPID e.0 → IsIn BANK b → node version names (node_text (Endpoint e (Some b))) ≡ Ok (unnamed_node (Endpoint e (Some b)))
unfolding node node_word node_word_of endpoint_node endpoint_keys node_name only_in
bank-back version names e b h k = rw (number-back NODE_EPID (node_text (Endpoint e (Some b))) e.0 refl h, optional-back BANK (node_text (Endpoint e (Some b))) b refl k, either (version == 2) nothing, either (version == 2) fine)

pub node-back : (version : ℕ) (names : List Named) (n : NodePlan) → FitsNode n → node version names (node_text n) ≡ Ok (unnamed_node n)
node-back version names (Crossbar ports) h = crossbar-back version names ports h
node-back version names Adapter h = adapter-back version names
node-back version names (Host e) h = host-back version names e h
node-back version names (Endpoint e None) h = bare-back version names e h.0
node-back version names (Endpoint e (Some b)) h = bank-back version names e b h.0 h.1

-- ---- losses

pub stream_entry-back : (f : Fault) → FitsStreamFault f → stream_entry (fault_text f) ≡ Ok f
unfolding stream_entry sized element sort_of
stream_entry-back (Samples s k) h = rw (within-in LOSE_STREAM s h.0, within-in LOSE_PLACE k h.1)
stream_entry-back (Status s k) h = rw (within-in LOSE_STREAM s h.0, within-in LOSE_PLACE k h.1)
stream_entry-back (Command s k) h = rw (within-in LOSE_STREAM s h.0, within-in LOSE_PLACE k h.1)
stream_entry-back (Request k) h = absurd h
stream_entry-back (Answer k) h = absurd h

pub plain_entry-back : (f : Fault) → FitsPlainFault f → plain_entry (fault_text f) ≡ Ok f
unfolding plain_entry sized element sort_of
plain_entry-back (Samples s k) h = absurd h
plain_entry-back (Status s k) h = absurd h
plain_entry-back (Command s k) h = absurd h
plain_entry-back (Request k) h = rw (within-in LOSE_PLACE k h)
plain_entry-back (Answer k) h = rw (within-in LOSE_PLACE k h)

pub any_entry-back : (f : Fault) → FitsAnyFault f → any_entry (fault_text f) ≡ Ok f
unfolding any_entry sort_of
any_entry-back (Samples s k) h = stream_entry-back (Samples s k) h
any_entry-back (Status s k) h = stream_entry-back (Status s k) h
any_entry-back (Command s k) h = stream_entry-back (Command s k) h
any_entry-back (Request k) h = plain_entry-back (Request k) h
any_entry-back (Answer k) h = plain_entry-back (Answer k) h
