-- The value of a script has no float and nests at most six deep.
use Rattle.std.proofs.Common.{◌≡◌, ℕ, suc, max, ◌≤◌, ◌||◌, List, [], ◌∷◌, map, Bool, true, false, Option, None, Some, Ordering, Less, Equal, Greater, refl, arith}
use Rattle.std.proofs.lemmas.Bool.{or_parts}
use Rattle.std.specs.Ordering.{nat_cmp, match_ordering}
use Rattle.std.specs.Cmp.Lexicographic.{slice_cmp}
use Rattle.chdr_words.specs.declared.epid.Epid.{Epid}
use Rattle.block_library.specs.declared.kind.BlockKind.{BlockKind}
use Rattle.net_topology.specs.declared.plan.NodePlan.{NodePlan}
use Rattle.net_topology.specs.declared.plan.NodePlan.TheVariants.{Crossbar, Adapter, Host, Endpoint}
use Rattle.net_topology.specs.declared.plan.LinkPlan.{LinkPlan}
use Rattle.net_faults.specs.declared.fault.Fault.{Fault}
use Rattle.net_faults.specs.declared.fault.Fault.TheVariants as fault
use Rattle.rf_script_types.specs.declared.act.Act.{Act}
use Rattle.rf_script_types.specs.declared.act.Act.TheVariants as act
use Rattle.rf_script_types.specs.declared.command.Script.{Script}
use Rattle.rf_script_types.specs.declared.command.ScriptCommand.{ScriptCommand}
use Rattle.rf_script_types.specs.declared.command.ScriptCommand.TheVariants.{Net, Discover, Route, Control, Unload, Block, Connect, Set, Commit, Run, Twin, Duplex}
use Rattle.rf_script_types.specs.declared.field.Field.{Field}
use Rattle.rf_script_types.specs.declared.field.Field.TheVariants as field
use Rattle.rf_script_types.specs.declared.words.Verb.{Verb}
use Rattle.rf_script_types.specs.declared.words.Verb.TheVariants as verb
use Rattle.rf_script_types.specs.Words.{verb_name, kind_word_name, op_name, side_name, property_name, policy_name}
use Rattle.rf_script_types.specs.Names.{field_name}
use Rattle.rf_script_types.specs.Text.{whole, word, list, items, with, end_text, link_text, node_text, fault_text, act_text}
use Rattle.rf_script_types.specs.CommandText.{do_text, with_lose, with_ends, with_optional, pair, kind_word, kind_number, packet_count, command_text, script_text}
use Rattle.serde_json.specs.Data.{Data, boolean, array, object, Items, no_items, item, Members, no_members, member, put, depth, items_depth, members_depth}
use Rattle.serde_json.specs.View.{items_of}
use Rattle.serde_json.specs.Written.{has_float, items_have_float, members_have_float}

-- a value without floats, at most this deep; its members; its items
record IsPlain (k : ℕ) (d : Data) : Type 0 where
  floats : has_float d ≡ false
  shallow : depth d ≤ k

record ArePlain (k : ℕ) (ms : Members) : Type 0 where
  floats : members_have_float ms ≡ false
  shallow : members_depth ms ≤ k

record EachPlain (k : ℕ) (ds : Items) : Type 0 where
  floats : items_have_float ds ≡ false
  shallow : items_depth ds ≤ k

member-plain : (k : ℕ) (key : List ℕ) (d : Data) (ms : Members) → IsPlain k d → ArePlain k ms → ArePlain k (member key d ms)
member-plain k key d ms h i = record { floats = rw (h.floats, i.floats); shallow = omega arith }

first-plain : (k : ℕ) (key : List ℕ) (d : Data) (ms : Members) → ArePlain k (member key d ms) → IsPlain k d
first-plain k key d ms h = record { floats = (or_parts (has_float d) _ h.floats).0; shallow = omega (arith, h.shallow) }

rest-plain : (k : ℕ) (key : List ℕ) (d : Data) (ms : Members) → ArePlain k (member key d ms) → ArePlain k ms
rest-plain k key d ms h = record { floats = (or_parts (has_float d) _ h.floats).1; shallow = omega (arith, h.shallow) }

at-plain : (k : ℕ) (o : Ordering) (a b c : Members) → ArePlain k a → ArePlain k b → ArePlain k c → ArePlain k (match_ordering o a b c)
at-plain k Less a b c x y z = x
at-plain k Equal a b c x y z = y
at-plain k Greater a b c x y z = z

put-plain : (k : ℕ) (key : List ℕ) (d : Data) (ms : Members) → IsPlain k d → ArePlain k ms → ArePlain k (put key d ms)
put-plain k key d no_members h i = member-plain k key d no_members h i
put-plain k key d (member l e ms) h i =
    at-plain k (slice_cmp nat_cmp key l) _ _ _ (member-plain k key d (member l e ms) h i) (member-plain k l d ms h (rest-plain k l e ms i))
    (member-plain k l e (put key d ms) (first-plain k l e ms i) (put-plain k key d ms h (rest-plain k l e ms i)))

none-plain : (k : ℕ) → ArePlain k no_members
none-plain k = record { floats = refl; shallow = omega arith }

object-plain : (k : ℕ) (ms : Members) → ArePlain k ms → IsPlain (suc k) (object ms)
object-plain k ms h = record { floats = h.floats; shallow = omega (arith, h.shallow) }

items-plain : {A : Type 0} (k : ℕ) (f : A → Data) → ((x : A) → IsPlain k (f x)) → (xs : List A) → EachPlain k (items_of (map f xs))
items-plain k f each [] = record { floats = refl; shallow = omega arith }
items-plain k f each (x ∷ xs) = let h = each x in let i = items-plain k f each xs in
    record { floats = rw (h.floats, i.floats); shallow = omega (arith, h.shallow, i.shallow) }

list-plain : {A : Type 0} (k : ℕ) (f : A → Data) → ((x : A) → IsPlain k (f x)) → (xs : List A) → IsPlain (suc k) (list f xs)
list-plain k f each xs = let h = items-plain k f each xs in record { floats = h.floats; shallow = omega (arith, h.shallow) }

-- ---- the entries of lists

whole-plain : (k : ℕ) (n : ℕ) → IsPlain k (whole n)
whole-plain k n = record { floats = refl; shallow = omega arith }

word-plain : (k : ℕ) (text : List ℕ) → IsPlain k (word text)
word-plain k text = record { floats = refl; shallow = omega arith }

flag-plain : (k : ℕ) (b : Bool) → IsPlain k (boolean b)
flag-plain k b = record { floats = refl; shallow = omega arith }

end-plain : (e : Epid) → IsPlain 0 (end_text e)
end-plain e = whole-plain 0 e.0

link-plain : (l : LinkPlan) → IsPlain 1 (link_text l)
link-plain l = record { floats = refl; shallow = omega arith }

node-plain : (n : NodePlan) → IsPlain 1 (node_text n)
node-plain (Crossbar ports) = record { floats = refl; shallow = omega arith }
node-plain Adapter = record { floats = refl; shallow = omega arith }
node-plain (Host e) = record { floats = refl; shallow = omega arith }
node-plain (Endpoint e None) = record { floats = refl; shallow = omega arith }
node-plain (Endpoint e (Some b)) = record { floats = refl; shallow = omega arith }

fault-plain : (f : Fault) → IsPlain 1 (fault_text f)
fault-plain (fault.Samples s k) = record { floats = refl; shallow = omega arith }
fault-plain (fault.Status s k) = record { floats = refl; shallow = omega arith }
fault-plain (fault.Command s k) = record { floats = refl; shallow = omega arith }
fault-plain (fault.Request k) = record { floats = refl; shallow = omega arith }
fault-plain (fault.Answer k) = record { floats = refl; shallow = omega arith }

act-plain : (a : Act) → IsPlain 2 (act_text a)
act-plain (act.Control due to r) = let h = list-plain 0 whole (whole-plain 0) r.words in record { floats = rw h.floats; shallow = omega (arith, h.shallow) }
act-plain (act.Unload due port) = record { floats = refl; shallow = omega arith }
act-plain (act.Move due from to) = record { floats = refl; shallow = omega arith }

-- ---- members

deep : (k : ℕ) (d : Data) → IsPlain k d → k ≤ 3 → IsPlain 3 d
deep k d h less = record { floats = h.floats; shallow = omega (arith, h.shallow) }

one : {ms : Members} (f : Field) (d : Data) → IsPlain 3 d → ArePlain 3 ms → ArePlain 3 (with f d ms)
one {ms = ms} f d p h = put-plain 3 (field_name f) d ms p h

number : {ms : Members} (f : Field) (n : ℕ) → ArePlain 3 ms → ArePlain 3 (with f (whole n) ms)
number f n h = one f (whole n) (whole-plain 3 n) h

text : {ms : Members} (f : Field) (s : List ℕ) → ArePlain 3 ms → ArePlain 3 (with f (word s) ms)
text f s h = one f (word s) (word-plain 3 s) h

flag : {ms : Members} (f : Field) (b : Bool) → ArePlain 3 ms → ArePlain 3 (with f (boolean b) ms)
flag f b h = one f (boolean b) (flag-plain 3 b) h

lose : {ms : Members} (faults : List Fault) → ArePlain 3 ms → ArePlain 3 (with_lose faults ms)
lose faults h = one field.Lose (list fault_text faults) (deep 2 (list fault_text faults) (list-plain 1 fault_text fault-plain faults) (omega arith)) h

numbers : {ms : Members} (f : Field) (ns : List ℕ) → ArePlain 3 ms → ArePlain 3 (with f (list whole ns) ms)
numbers f ns h = one f (list whole ns) (deep 1 (list whole ns) (list-plain 0 whole (whole-plain 0) ns) (omega arith)) h

two : {ms : Members} (f : Field) (a b : ℕ) → ArePlain 3 ms → ArePlain 3 (with f (pair a b) ms)
two f a b h = numbers f (a ∷ b ∷ []) h

ends : {ms : Members} (f : Field) (es : List Epid) → ArePlain 3 ms → ArePlain 3 (with_ends f es ms)
ends f [] h = h
ends f (e ∷ es) h = one f (list end_text (e ∷ es)) (deep 1 (list end_text (e ∷ es)) (list-plain 0 end_text end-plain (e ∷ es)) (omega arith)) h

optional : {ms : Members} (f : Field) (n : Option ℕ) → ArePlain 3 ms → ArePlain 3 (with_optional f n ms)
optional f None h = h
optional f (Some n) h = number f n h

begins : (v : Verb) → ArePlain 3 (do_text v)
begins v = text field.Do (verb_name v) (none-plain 3)

closed : {ms : Members} → ArePlain 3 ms → IsPlain 4 (object ms)
closed {ms = ms} h = object-plain 3 ms h

nodes-plain : (nodes : List NodePlan) → IsPlain 3 (list node_text nodes)
nodes-plain nodes = deep 2 (list node_text nodes) (list-plain 1 node_text node-plain nodes) (omega arith)

links-plain : (links : List LinkPlan) → IsPlain 3 (list link_text links)
links-plain links = deep 2 (list link_text links) (list-plain 1 link_text link-plain links) (omega arith)

acts-plain : (acts : List Act) → IsPlain 3 (list act_text acts)
acts-plain acts = list-plain 2 act_text act-plain acts

command-plain : (c : ScriptCommand) → IsPlain 4 (command_text c)
command-plain (Net nodes links room routed limit) =
    closed (flag field.Routed routed (number field.Room room (one field.Links (list link_text links) (links-plain links)
    (one field.Nodes (list node_text nodes) (nodes-plain nodes) (begins verb.Net)))))
command-plain (Discover host faults) = closed (lose faults (number field.Host host.0 (begins verb.Discover)))
command-plain (Route host from to faults) =
    closed (lose faults (number field.To to.0 (number field.From from.0 (number field.Host host.0 (begins verb.Route)))))
command-plain (Control host to port op addr words enables faults) =
    closed (lose faults (number field.Enables enables (numbers field.Words words (number field.Addr addr (text field.Op (op_name op)
    (number field.Port port (number field.To to.0 (number field.Host host.0 (begins verb.Control)))))))))
command-plain (Unload port) = closed (number field.Port port (begins verb.Unload))
command-plain (Block k ins outs packets time) =
    closed (optional field.Time time (optional field.Packets (packet_count k packets) (ends field.Outs outs (ends field.Ins ins
    (optional field.Count (kind_number k) (text field.Kind (kind_word_name (kind_word k)) (begins verb.Block)))))))
command-plain (Connect from to flow start policy) =
    closed (text field.Policy (policy_name policy) (number field.Start start (number field.Max flow.max (two field.Freq flow.freq_bytes flow.freq_packets
    (two field.Cap flow.cap_bytes flow.cap_packets (two field.To to.block to.port (two field.From from.block from.port (begins verb.Connect))))))))
command-plain (Set at value) =
    closed (number field.Value value (text field.Property (property_name at.prop) (number field.Port at.port (text field.Side (side_name at.side)
    (number field.Block at.block (begins verb.Set))))))
command-plain Commit = closed (begins verb.Commit)
command-plain (Run seed trace peak faults) = closed (lose faults (flag field.Peak peak (flag field.Trace trace (number field.Seed seed (begins verb.Run)))))
command-plain (Twin cut peak faults) = closed (lose faults (flag field.Peak peak (number field.Cut cut (begins verb.Twin))))
command-plain (Duplex host acts seed peak faults) =
    closed (lose faults (flag field.Peak peak (number field.Seed seed (one field.Acts (list act_text acts) (acts-plain acts) (number field.Host host.0 (begins verb.Duplex))))))

whole_script : (s : Script) → IsPlain 6 (script_text s)
unfolding script_text
whole_script s =
    object-plain 5 (with field.Commands (list command_text s.commands) (with field.Rfnoc (whole s.version) no_members))
    (put-plain 5 (field_name field.Commands) (list command_text s.commands) (with field.Rfnoc (whole s.version) no_members)
    (list-plain 4 command_text command-plain s.commands) (put-plain 5 (field_name field.Rfnoc) (whole s.version) no_members (whole-plain 5 s.version) (none-plain 5)))

pub no_floats : (s : Script) → has_float (script_text s) ≡ false
no_floats s = (whole_script s).floats

pub not_deep : (s : Script) → depth (script_text s) ≤ 127
not_deep s = omega (arith, (whole_script s).shallow)
