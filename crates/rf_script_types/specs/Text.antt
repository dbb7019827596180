-- The JSON value of a script. The members of an object stand in the order of the bytes of their keys, which `put` keeps, so the
-- order of the fields here is only that of this page.
use Rattle.std.specs.Prelude.{ℕ, List, [], ◌∷◌, map, Option, None, Some}
use Rattle.chdr_words.specs.declared.epid.Epid.{Epid}
use Rattle.chdr_words.specs.declared.control.Control.{Control}
use Rattle.net_topology.specs.declared.plan.NodePlan.{NodePlan}
use Rattle.net_topology.specs.declared.plan.NodePlan.TheVariants.{Crossbar, Adapter, Host, Endpoint}
use Rattle.net_topology.specs.declared.plan.LinkPlan.{LinkPlan}
use Rattle.net_faults.specs.declared.fault.Fault.{Fault}
use Rattle.net_faults.specs.declared.fault.Fault.TheVariants as fault
use Rattle.rf_script_types.specs.declared.act.Act.{Act}
use Rattle.rf_script_types.specs.declared.act.Act.TheVariants as act
use Rattle.rf_script_types.specs.declared.act.Due.{Due}
use Rattle.rf_script_types.specs.declared.field.Field.{Field}
use Rattle.rf_script_types.specs.declared.field.Field.TheVariants as field
use Rattle.rf_script_types.specs.declared.words.NodeWord.TheVariants as node_word
use Rattle.rf_script_types.specs.declared.words.Sort.{Sort}
use Rattle.rf_script_types.specs.declared.words.Sort.TheVariants as sort
use Rattle.rf_script_types.specs.declared.words.ActWord.TheVariants as act_word
use Rattle.rf_script_types.specs.Names.{field_name}
use Rattle.rf_script_types.specs.Words.{node_word_name, sort_name, act_word_name, op_name}
use Rattle.serde_json.specs.Data.{Data, number, unsigned, string, array, object, Members, no_members, put}
use Rattle.serde_json.specs.View.{items_of}

-- a number, a text, a list
abbrev pub whole : ℕ → Data
whole n = number (unsigned n)

abbrev pub word : List ℕ → Data
word text = string text

abbrev pub list : {A : Type 0} → (A → Data) → List A → Data
list f xs = array (items_of (map f xs))

abbrev pub items : List Data → Data
items ds = array (items_of ds)

-- an object with one field more
abbrev pub with : Field → Data → Members → Members
with field d ms = put (field_name field) d ms

-- ---- the entries of lists

abbrev pub end_text : Epid → Data
end_text epid = whole epid.0

abbrev pub link_text : LinkPlan → Data
link_text link = items (whole link.a ∷ whole link.a_port ∷ whole link.b ∷ whole link.b_port ∷ [])

abbrev pub crossbar_text : ℕ → Data
crossbar_text ports = object (with field.Ports (whole ports) (with field.Kind (word (node_word_name node_word.Crossbar)) no_members))

abbrev pub adapter_text : Data
adapter_text = object (with field.Kind (word (node_word_name node_word.Adapter)) no_members)

abbrev pub host_text : Epid → Data
host_text epid = object (with field.Kind (word (node_word_name node_word.Host)) (with field.Epid (whole epid.0) no_members))

abbrev pub with_bank : Option ℕ → Members → Members
with_bank None ms = ms
with_bank (Some bank) ms = with field.Bank (whole bank) ms

abbrev pub endpoint_text : Epid → Option ℕ → Data
endpoint_text epid bank = object (with_bank bank
    (with field.Kind (word (node_word_name node_word.Endpoint)) (with field.Epid (whole epid.0) no_members)))

abbrev pub node_text : NodePlan → Data
node_text (Crossbar ports) = crossbar_text ports
node_text Adapter = adapter_text
node_text (Host epid) = host_text epid
node_text (Endpoint epid bank) = endpoint_text epid bank

abbrev pub stream_fault_text : Sort → ℕ → ℕ → Data
stream_fault_text s stream place = items (word (sort_name s) ∷ whole stream ∷ whole place ∷ [])

abbrev pub plain_fault_text : Sort → ℕ → Data
plain_fault_text s place = items (word (sort_name s) ∷ whole place ∷ [])

abbrev pub fault_text : Fault → Data
fault_text (fault.Samples stream place) = stream_fault_text sort.Samples stream place
fault_text (fault.Status stream place) = stream_fault_text sort.Status stream place
fault_text (fault.Command stream place) = stream_fault_text sort.Command stream place
fault_text (fault.Request place) = plain_fault_text sort.Request place
fault_text (fault.Answer place) = plain_fault_text sort.Answer place

abbrev pub due_text : Due → Data
due_text due = list whole (due.stream ∷ due.taken ∷ [])

abbrev pub unload_text : Due → ℕ → Data
unload_text due port = items (word (act_word_name act_word.Unload) ∷ due_text due ∷ whole port ∷ [])

abbrev pub move_text : Due → ℕ → ℕ → Data
move_text due from to = items (word (act_word_name act_word.Move) ∷ due_text due ∷ whole from ∷ whole to ∷ [])

abbrev pub control_text : Due → Epid → Control → Data
control_text due to request = items (word (act_word_name act_word.Control) ∷ due_text due ∷ whole to.0 ∷ whole request.dst_port
    ∷ word (op_name request.op) ∷ whole request.addr ∷ list whole request.words ∷ [])

abbrev pub act_text : Act → Data
act_text (act.Control due to request) = control_text due to request
act_text (act.Unload due port) = unload_text due port
act_text (act.Move due from to) = move_text due from to
