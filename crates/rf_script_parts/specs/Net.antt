-- The command net: nodes with their names, and links.
use Rattle.std.specs.Prelude.{ℕ, ◌==◌, List, [], ◌∷◌, ◌++◌, Bool, true, false, not, ◌&&◌, ◌||◌, length, nat_le, if◌then◌else◌, Option, None, Some, option_map, option_and_then, is_some, Result, Ok, Err, ⊤}
use Rattle.chdr_words.specs.declared.epid.Epid.{Epid}
use Rattle.net_topology.specs.declared.plan.NodePlan.{NodePlan}
use Rattle.net_topology.specs.declared.plan.NodePlan.TheVariants.{Crossbar, Adapter, Host, Endpoint}
use Rattle.net_topology.specs.declared.plan.LinkPlan.{LinkPlan}
use Rattle.rf_script_types.specs.declared.command.ScriptCommand.TheVariants as command
use Rattle.rf_script_types.specs.declared.field.Field.TheVariants as field
use Rattle.rf_script_types.specs.declared.fault.Why.TheVariants as why
use Rattle.rf_script_types.specs.declared.table.TheConstants.{ROOM, PORTS, NODE_EPID, BANK, LINK_NODE, LINK_PORT}
use Rattle.rf_script_types.specs.declared.words.NodeWord.{NodeWord}
use Rattle.rf_script_types.specs.declared.words.NodeWord.TheVariants as word
use Rattle.rf_script_types.specs.Limits.{node_limit}
use Rattle.rf_script_types.specs.Words.{node_word_of}
use Rattle.rf_script_parts.specs.declared.wrong.Wrong.{Wrong}
use Rattle.rf_script_parts.specs.declared.scope.Named.{Named}
use Rattle.rf_script_parts.specs.declared.net.ReadNode.{ReadNode}
use Rattle.rf_script_parts.specs.declared.net.Nodes.{Nodes}
use Rattle.rf_script_parts.specs.declared.net.LinksSoFar.{LinksSoFar}
use Rattle.rf_script_parts.specs.declared.scope.ReadCommand.{ReadCommand}
use Rattle.rf_script_parts.specs.Entries.{entries}
use Rattle.rf_script_parts.specs.Others.{only, only_in}
use Rattle.rf_script_parts.specs.Scope.{epid_named}
use Rattle.rf_script_parts.specs.Value.{◌>>=◌, ◌>>◌, bad, typed, listed, find, required, ranged, number, optional, flag, sized, element}
use Rattle.serde_json.specs.Data.{Data, Items}
use Rattle.serde_json.specs.Events.{items_len}
use Rattle.serde_json.specs.Find.{as_str, as_array, as_object}

-- a letter from a to z, a digit or `_`
abbrev pub is_letter : ℕ → Bool
is_letter b = nat_le 97 b && nat_le b 122 || nat_le 48 b && nat_le b 57 || b == 95

abbrev pub has_letters : List ℕ → Bool
has_letters [] = true
has_letters (b ∷ bs) = is_letter b && has_letters bs

-- 1 to 32 letters, the first of them no digit
abbrev pub is_name : List ℕ → Bool
is_name [] = false
is_name (b ∷ bs) = nat_le (length (b ∷ bs)) 32 && not (nat_le 48 b && nat_le b 57) && has_letters (b ∷ bs)

-- the name of a text, which no node before has
abbrev pub name_text : List Named → List ℕ → Result (List ℕ) Wrong
name_text names text = if not (is_name text) || is_some (epid_named names text) then Err (bad field.Nodes why.Name) else Ok text

abbrev pub name_at : List Named → Option Data → Result (Option (List ℕ)) Wrong
name_at names None = Ok None
name_at names (Some d) = typed field.Nodes (as_str d) >>= λ text. name_text names text >>= λ name. Ok (Some name)

-- the name of a node, which only version 2 has
unfoldable pub node_name : ℕ → List Named → Data → Result (Option (List ℕ)) Wrong
node_name version names d = if version == 2 then name_at names (find field.Name d) else Ok None

unfoldable pub node_word : Data → Result NodeWord Wrong
node_word d = do
  value ← required field.Kind field.Nodes d
  found ← typed field.Nodes (option_map node_word_of (as_str value))
  listed field.Nodes found

unfoldable pub crossbar : Data → Result ReadNode Wrong
crossbar d = do
  ports ← number PORTS d
  only_in field.Nodes (field.Kind ∷ field.Ports ∷ []) d
  Ok (record { plan = Crossbar ports; named = None })

unfoldable pub adapter : Data → Result ReadNode Wrong
adapter d = do
  only_in field.Nodes (field.Kind ∷ []) d
  Ok (record { plan = Adapter; named = None })

-- in version 1 a name is no field
unfoldable pub host_keys : ℕ → Data → Result ⊤ Wrong
host_keys version d = if version == 2
    then only_in field.Nodes (field.Kind ∷ field.Epid ∷ field.Name ∷ []) d
    else only_in field.Nodes (field.Kind ∷ field.Epid ∷ []) d

abbrev pub with_epid : Option (List ℕ) → Epid → Option Named
with_epid None epid = None
with_epid (Some name) epid = Some (record { name = name; epid = epid })

abbrev pub epid : ℕ → Epid
epid n = record { 0 = n }

unfoldable pub host : ℕ → List Named → Data → Result ReadNode Wrong
host version names d = do
  n ← number NODE_EPID d
  name ← node_name version names d
  host_keys version d
  Ok (record { plan = Host (epid n); named = with_epid name (epid n) })

unfoldable pub endpoint_keys : ℕ → Data → Result ⊤ Wrong
endpoint_keys version d = if version == 2
    then only_in field.Nodes (field.Kind ∷ field.Epid ∷ field.Bank ∷ field.Name ∷ []) d
    else only_in field.Nodes (field.Kind ∷ field.Epid ∷ field.Bank ∷ []) d

unfoldable pub endpoint_node : ℕ → List Named → Data → Result ReadNode Wrong
endpoint_node version names d = do
  n ← number NODE_EPID d
  bank ← optional BANK d
  name ← node_name version names d
  endpoint_keys version d
  Ok (record { plan = Endpoint (epid n) bank; named = with_epid name (epid n) })

abbrev pub node_of : ℕ → List Named → Data → NodeWord → Result ReadNode Wrong
node_of version names d word.Crossbar = crossbar d
node_of version names d word.Adapter = adapter d
node_of version names d word.Host = host version names d
node_of version names d word.Endpoint = endpoint_node version names d

-- an entry of the list of nodes
unfoldable pub node : ℕ → List Named → Data → Result ReadNode Wrong
node version names d = if is_some (as_object d) then node_word d >>= node_of version names d
    else Err (bad field.Nodes why.WrongType)

abbrev pub with_name : List Named → Option Named → List Named
with_name names None = names
with_name names (Some named) = names ++ named ∷ []

-- one more node
abbrev pub more_nodes : Nodes → Data → Result Nodes Wrong
more_nodes before d = node before.version before.names d >>= λ read.
    Ok (record before { list = before.list ++ read.plan ∷ []; names = with_name before.names read.named })

abbrev pub no_nodes : ℕ → Nodes
no_nodes version = record { version = version; list = []; names = [] }

unfoldable pub node_list : ℕ → Items → Result Nodes Wrong
node_list version ds = if items_len ds == 0 then Err (bad field.Nodes why.Range)
    else entries more_nodes (no_nodes version) ds

abbrev pub nodes_in : ℕ → Option Items → Result Nodes Wrong
nodes_in version None = Err (bad field.Nodes why.WrongType)
nodes_in version (Some ds) = node_list version ds

-- the field `nodes`
unfoldable pub node_field : ℕ → Data → Result Nodes Wrong
node_field version d = required field.Nodes field.Nodes d >>= λ value. nodes_in version (as_array value)

-- [a, a_port, b, b_port]
unfoldable pub link : Data → Result LinkPlan Wrong
link d = do
  sized field.Links 4 d
  x ← element field.Links 0 d
  y ← element field.Links 1 d
  z ← element field.Links 2 d
  w ← element field.Links 3 d
  a ← ranged LINK_NODE x
  p ← ranged LINK_PORT y
  b ← ranged LINK_NODE z
  q ← ranged LINK_PORT w
  Ok (record { a = a; a_port = p; b = b; b_port = q })

-- one more link
abbrev pub more_links : LinksSoFar → Data → Result LinksSoFar Wrong
more_links before d = link d >>= λ one. Ok (record before { list = before.list ++ one ∷ [] })

unfoldable pub link_list : Items → Result (List LinkPlan) Wrong
link_list ds = entries more_links (record { list = [] }) ds >>= λ all. Ok all.list

abbrev pub links_in : Option Items → Result (List LinkPlan) Wrong
links_in None = Err (bad field.Links why.WrongType)
links_in (Some ds) = link_list ds

-- the field `links`
unfoldable pub link_field : Data → Result (List LinkPlan) Wrong
link_field d = required field.Links field.Links d >>= λ value. links_in (as_array value)

unfoldable pub net : ℕ → Data → Result ReadCommand Wrong
net version d = do
  made ← node_field version d
  list ← link_field d
  room ← number ROOM d
  routed ← flag field.Routed true d
  only (field.Do ∷ field.Nodes ∷ field.Links ∷ field.Room ∷ field.Routed ∷ []) d
  Ok (record { command = command.Net made.list list room routed (node_limit version); names = Some made.names })
