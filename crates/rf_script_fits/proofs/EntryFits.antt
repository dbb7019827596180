-- The entries of lists, as they are read, fit: nodes, links, losses and words.
use Rattle.std.proofs.Common.{◌≡◌, ℕ, zero, suc, ◌+◌, ◌≤◌, ◌<◌, ◌==◌, ◌&&◌, List, [], ◌∷◌, ◌++◌, length, length-append, Bool, true, false, cond, Option, None, Some, refl, subst, sym, arith}
use Rattle.std.proofs.lemmas.Bool.{and_parts}
use Rattle.std.proofs.lemmas.Bool.Decides.{nat_tests}
use Rattle.std.specs.Prelude.{Result, Ok, Err, IfSome, is_some, nat_lt, nat_le, option_map}
use Rattle.chdr_words.specs.declared.control.CtrlOp.{CtrlOp}
use Rattle.chdr_words.specs.declared.control.CtrlOp.TheVariants as op
use Rattle.chdr_words.specs.declared.epid.Epid.{Epid}
use Rattle.net_topology.specs.declared.plan.NodePlan.{NodePlan}
use Rattle.net_topology.specs.declared.plan.NodePlan.TheVariants.{Crossbar, Adapter, Host, Endpoint}
use Rattle.net_topology.specs.declared.plan.LinkPlan.{LinkPlan}
use Rattle.net_faults.specs.declared.fault.Fault.{Fault}
use Rattle.net_faults.specs.declared.fault.Fault.TheVariants as fault
use Rattle.rf_script_types.specs.declared.field.Field.{Field}
use Rattle.rf_script_types.specs.declared.field.Field.TheVariants as field
use Rattle.rf_script_types.specs.declared.fault.Why.TheVariants as why
use Rattle.rf_script_types.specs.declared.table.Number.{Number}
use Rattle.rf_script_types.specs.declared.table.TheConstants.{PORTS, NODE_EPID, BANK, LINK_NODE, LINK_PORT, LOSE_STREAM, LOSE_PLACE}
use Rattle.rf_script_types.specs.declared.words.NodeWord.{NodeWord}
use Rattle.rf_script_types.specs.declared.words.NodeWord.TheVariants as word
use Rattle.rf_script_types.specs.declared.words.Sort.{Sort}
use Rattle.rf_script_types.specs.declared.words.Sort.TheVariants as sort
use Rattle.rf_script_types.specs.Fits.{IsIn, Each, FitsNode, FitsLink, FitsStreamFault, FitsPlainFault, FitsAnyFault, FitsLose, FitsWords, IsNamed}
use Rattle.rf_script_types.specs.Limits.{lose_limit}
use Rattle.rf_script_types.specs.Words.{op_of, op_name}
use Rattle.rf_script_parts.specs.declared.lose.Losses.{Losses}
use Rattle.rf_script_parts.specs.declared.lose.Sorts.{Sorts}
use Rattle.rf_script_parts.specs.declared.lose.Sorts.TheVariants.{Stream, Plain, Any}
use Rattle.rf_script_parts.specs.declared.net.LinksSoFar.{LinksSoFar}
use Rattle.rf_script_parts.specs.declared.net.Nodes.{Nodes}
use Rattle.rf_script_parts.specs.declared.net.ReadNode.{ReadNode}
use Rattle.rf_script_parts.specs.declared.scope.Named.{Named}
use Rattle.rf_script_parts.specs.declared.words.WordsSoFar.{WordsSoFar}
use Rattle.rf_script_parts.specs.Entries.{entries}
use Rattle.rf_script_parts.specs.Lose.{head_of, stream_fault, plain_fault, stream_entry, plain_entry, any_entry, is_stream_sort, fault_entry, losses, lose_list, lose_value, lose_at, lose}
use Rattle.rf_script_parts.specs.Net.{with_epid, epid, node_name, node_word, crossbar, adapter, host, host_keys, endpoint_node, endpoint_keys, node_of, node, with_name, more_nodes, no_nodes, node_list, nodes_in, node_field, link, more_links, link_list, links_in, link_field}
use Rattle.rf_script_parts.specs.Others.{only_in}
use Rattle.rf_script_parts.specs.Value.{bad, typed, listed, find, required, whole, ranged, number, optional, sized, element}
use Rattle.rf_script_parts.specs.Words.{operation, more_words, word_list}
use Rattle.std.specs.Str.{bytes_eq}
use Rattle.serde_json.specs.Data.{Data, Items, no_items, item}
use Rattle.serde_json.specs.Events.{items_len}
use Rattle.serde_json.specs.Find.{as_array, as_object, as_str}
use Rattle.rf_script_fits.proofs.Gives.{Gives, good, faulty, weaker, bind, pass, after, either, passed, unstopped, each-append, entries-give}
use Rattle.rf_script_fits.proofs.ValueFits.{ranged-fits, listed-fits, number-fits, optional-fits, IsInIfSome}
use Rattle.rf_script_fits.proofs.EndFits.{IsEpid, NamesAnEpid, NamesFit, some_either}

-- ---- nodes and links

abbrev NodeFits : ReadNode → Type 0
NodeFits read = FitsNode read.plan × IfSome read.named NamesAnEpid

with_epid-fits : (name : Option (List ℕ)) (e : Epid) → IsIn NODE_EPID e.0 → IfSome (with_epid name e) NamesAnEpid
with_epid-fits None e h = tt
with_epid-fits (Some name) e h = (omega (arith, h.0), omega (arith, h.1))

crossbar-fits : (d : Data) → Gives (crossbar d) NodeFits
unfolding crossbar
crossbar-fits d = bind (number PORTS d) _ (IsIn PORTS) NodeFits (number-fits PORTS d tt)
    (λ ports h. after (only_in field.Nodes (field.Kind ∷ field.Ports ∷ []) d) _ NodeFits (good NodeFits (record { plan = Crossbar ports; named = None }) (h, tt)))

adapter-fits : (d : Data) → Gives (adapter d) NodeFits
unfolding adapter
adapter-fits d = after (only_in field.Nodes (field.Kind ∷ []) d) _ NodeFits (good NodeFits (record { plan = Adapter; named = None }) (tt, tt))

host-fits : (version : ℕ) (names : List Named) (d : Data) → Gives (host version names d) NodeFits
unfolding host
host-fits version names d = bind (number NODE_EPID d) _ (IsIn NODE_EPID) NodeFits (number-fits NODE_EPID d tt)
    (λ n h. pass (node_name version names d) _ NodeFits (λ name. after (host_keys version d) _ NodeFits
    (good NodeFits (record { plan = Host (epid n); named = with_epid name (epid n) }) (h, with_epid-fits name (epid n) h))))

endpoint_node-fits : (version : ℕ) (names : List Named) (d : Data) → Gives (endpoint_node version names d) NodeFits
unfolding endpoint_node
endpoint_node-fits version names d = bind (number NODE_EPID d) _ (IsIn NODE_EPID) NodeFits (number-fits NODE_EPID d tt)
    (λ n h. bind (optional BANK d) _ (IsInIfSome BANK) NodeFits (optional-fits BANK d) (λ bank b. pass (node_name version names d) _ NodeFits
    (λ name. after (endpoint_keys version d) _ NodeFits
    (good NodeFits (record { plan = Endpoint (epid n) bank; named = with_epid name (epid n) }) ((h, b), with_epid-fits name (epid n) h)))))

node_of-fits : (version : ℕ) (names : List Named) (d : Data) (w : NodeWord) → Gives (node_of version names d w) NodeFits
node_of-fits version names d word.Crossbar = crossbar-fits d
node_of-fits version names d word.Adapter = adapter-fits d
node_of-fits version names d word.Host = host-fits version names d
node_of-fits version names d word.Endpoint = endpoint_node-fits version names d

node-fits : (version : ℕ) (names : List Named) (d : Data) → Gives (node version names d) NodeFits
unfolding node
node-fits version names d = passed (is_some (as_object d)) _ (bad field.Nodes why.WrongType) NodeFits
    (λ e. pass (node_word d) (node_of version names d) NodeFits (node_of-fits version names d))

record NodesLeft (total : ℕ) (ds : Items) (s : Nodes) : Type 0 where
  each : Each FitsNode s.list
  names : NamesFit s.names
  count : length s.list + items_len ds ≡ total

with_name-fits : (names : List Named) (o : Option Named) → NamesFit names → IfSome o NamesAnEpid → NamesFit (with_name names o)
with_name-fits names None h k = h
with_name-fits names (Some named) h k = each-append NamesAnEpid names named h k

pub one_more : {A : Type 0} (xs : List A) (x : A) (n total : ℕ) → length xs + suc n ≡ total → length (xs ++ x ∷ []) + n ≡ total
one_more xs x n total h = omega (arith, length-append xs (x ∷ []))

more_nodes-fit : (total : ℕ) (d : Data) (ds : Items) (s : Nodes) → NodesLeft total (item d ds) s → Gives (more_nodes s d) (NodesLeft total ds)
more_nodes-fit total d ds s h = bind (node s.version s.names d) _ NodeFits (NodesLeft total ds) (node-fits s.version s.names d)
    (λ read k. good (NodesLeft total ds) (record s { list = s.list ++ read.plan ∷ []; names = with_name s.names read.named }) (record {
      each = each-append FitsNode s.list read.plan h.each k.0;
      names = with_name-fits s.names read.named h.names k.1;
      count = one_more s.list read.plan (items_len ds) total h.count;
    }))

abbrev pub NodesFit : Nodes → Type 0
NodesFit s = (1 ≤ length s.list) × Each FitsNode s.list × NamesFit s.names

some-left : (n : ℕ) → (n == 0) ≡ false → 1 ≤ n
some-left n h = grind (arith, nat_tests)

node_list-fits : (version : ℕ) (ds : Items) → Gives (node_list version ds) NodesFit
unfolding node_list
node_list-fits version ds = unstopped (items_len ds == 0) (entries more_nodes (no_nodes version) ds) (bad field.Nodes why.Range) NodesFit
    (λ e. let some : 1 ≤ items_len ds = some-left (items_len ds) e in
    weaker (entries more_nodes (no_nodes version) ds) (NodesLeft (items_len ds) no_items) NodesFit
    (entries-give more_nodes (NodesLeft (items_len ds)) (more_nodes-fit (items_len ds)) ds (no_nodes version) (record { each = tt; names = tt; count = omega arith }))
    (λ s h. (omega (arith, h.count), h.each, h.names)))

nodes_in-fit : (version : ℕ) (o : Option Items) → Gives (nodes_in version o) NodesFit
nodes_in-fit version None = faulty NodesFit _
nodes_in-fit version (Some ds) = node_list-fits version ds

pub node_field-fits : (version : ℕ) (d : Data) → Gives (node_field version d) NodesFit
unfolding node_field
node_field-fits version d = pass (required field.Nodes field.Nodes d) _ NodesFit (λ v. nodes_in-fit version (as_array v))

link-fits : (d : Data) → Gives (link d) FitsLink
unfolding link
link-fits d = after (sized field.Links 4 d) _ FitsLink (pass (element field.Links 0 d) _ FitsLink (λ x. pass (element field.Links 1 d) _ FitsLink
    (λ y. pass (element field.Links 2 d) _ FitsLink (λ z. pass (element field.Links 3 d) _ FitsLink
    (λ w. bind (ranged LINK_NODE x) _ (IsIn LINK_NODE) FitsLink (ranged-fits LINK_NODE x)
    (λ a h. bind (ranged LINK_PORT y) _ (IsIn LINK_PORT) FitsLink (ranged-fits LINK_PORT y)
    (λ p i. bind (ranged LINK_NODE z) _ (IsIn LINK_NODE) FitsLink (ranged-fits LINK_NODE z)
    (λ b j. bind (ranged LINK_PORT w) _ (IsIn LINK_PORT) FitsLink (ranged-fits LINK_PORT w)
    (λ q k. good FitsLink (record { a = a; a_port = p; b = b; b_port = q }) (h, i, j, k))))))))))

abbrev LinksLeft : Items → LinksSoFar → Type 0
LinksLeft ds s = Each FitsLink s.list

more_links-fit : (d : Data) (ds : Items) (s : LinksSoFar) → LinksLeft (item d ds) s → Gives (more_links s d) (LinksLeft ds)
more_links-fit d ds s h = bind (link d) _ FitsLink (LinksLeft ds) (link-fits d)
    (λ one k. good (LinksLeft ds) (record s { list = s.list ++ one ∷ [] }) (each-append FitsLink s.list one h k))

link_list-fits : (ds : Items) → Gives (link_list ds) (Each FitsLink)
unfolding link_list
link_list-fits ds = bind (entries more_links (record { list = [] }) ds) _ (LinksLeft no_items) (Each FitsLink)
    (entries-give more_links LinksLeft more_links-fit ds (record { list = [] }) tt) (λ all h. good (Each FitsLink) all.list h)

links_in-fit : (o : Option Items) → Gives (links_in o) (Each FitsLink)
links_in-fit None = faulty (Each FitsLink) _
links_in-fit (Some ds) = link_list-fits ds

pub link_field-fits : (d : Data) → Gives (link_field d) (Each FitsLink)
unfolding link_field
link_field-fits d = pass (required field.Links field.Links d) _ (Each FitsLink) (λ v. links_in-fit (as_array v))

-- ---- losses

stream_fault-fits : (s : Option Sort) (stream place : ℕ) → IsIn LOSE_STREAM stream → IsIn LOSE_PLACE place → IfSome (stream_fault s stream place) FitsStreamFault
stream_fault-fits None stream place h k = tt
stream_fault-fits (Some sort.Samples) stream place h k = (h, k)
stream_fault-fits (Some sort.Status) stream place h k = (h, k)
stream_fault-fits (Some sort.Command) stream place h k = (h, k)
stream_fault-fits (Some sort.Request) stream place h k = tt
stream_fault-fits (Some sort.Answer) stream place h k = tt

plain_fault-fits : (s : Option Sort) (place : ℕ) → IsIn LOSE_PLACE place → IfSome (plain_fault s place) FitsPlainFault
plain_fault-fits None place k = tt
plain_fault-fits (Some sort.Samples) place k = tt
plain_fault-fits (Some sort.Status) place k = tt
plain_fault-fits (Some sort.Command) place k = tt
plain_fault-fits (Some sort.Request) place k = k
plain_fault-fits (Some sort.Answer) place k = k

stream_entry-fits : (d : Data) → Gives (stream_entry d) FitsStreamFault
unfolding stream_entry
stream_entry-fits d = let P = FitsStreamFault in
    after (sized field.Lose 3 d) _ P (pass (head_of d) _ P λ found. pass (element field.Lose 1 d) _ P λ s. pass (element field.Lose 2 d) _ P λ k.
    bind (ranged LOSE_STREAM s) _ (IsIn LOSE_STREAM) P (ranged-fits LOSE_STREAM s) λ stream h.
    bind (ranged LOSE_PLACE k) _ (IsIn LOSE_PLACE) P (ranged-fits LOSE_PLACE k) λ place i.
    listed-fits field.Lose (stream_fault found stream place) P (stream_fault-fits found stream place h i))

plain_entry-fits : (d : Data) → Gives (plain_entry d) FitsPlainFault
unfolding plain_entry
plain_entry-fits d = let P = FitsPlainFault in
    after (sized field.Lose 2 d) _ P (pass (head_of d) _ P λ found. pass (element field.Lose 1 d) _ P λ k.
    bind (ranged LOSE_PLACE k) _ (IsIn LOSE_PLACE) P (ranged-fits LOSE_PLACE k) λ place i.
    listed-fits field.Lose (plain_fault found place) P (plain_fault-fits found place i))

stream_is_any : (f : Fault) → FitsStreamFault f → FitsAnyFault f
stream_is_any (fault.Samples s k) h = h
stream_is_any (fault.Status s k) h = h
stream_is_any (fault.Command s k) h = h
stream_is_any (fault.Request k) h = absurd h
stream_is_any (fault.Answer k) h = absurd h

plain_is_any : (f : Fault) → FitsPlainFault f → FitsAnyFault f
plain_is_any (fault.Samples s k) h = absurd h
plain_is_any (fault.Status s k) h = absurd h
plain_is_any (fault.Command s k) h = absurd h
plain_is_any (fault.Request k) h = h
plain_is_any (fault.Answer k) h = h

any_entry-fits : (d : Data) → Gives (any_entry d) FitsAnyFault
unfolding any_entry
any_entry-fits d = let P = FitsAnyFault in
    pass (head_of d) _ P λ found. pass (listed field.Lose found) _ P λ s. either (is_stream_sort s) (stream_entry d) (plain_entry d) P
    (weaker (stream_entry d) FitsStreamFault P (stream_entry-fits d) stream_is_any) (weaker (plain_entry d) FitsPlainFault P (plain_entry-fits d) plain_is_any)

abbrev pub FitsSorts : Sorts → Fault → Type 0
FitsSorts Stream f = FitsStreamFault f
FitsSorts Plain f = FitsPlainFault f
FitsSorts Any f = FitsAnyFault f

fault_entry-fits : (sorts : Sorts) (d : Data) → Gives (fault_entry sorts d) (FitsSorts sorts)
fault_entry-fits Stream d = stream_entry-fits d
fault_entry-fits Plain d = plain_entry-fits d
fault_entry-fits Any d = any_entry-fits d

record LossesLeft (sorts : Sorts) (total : ℕ) (ds : Items) (s : Losses) : Type 0 where
  sorts_are : s.sorts ≡ sorts
  each : Each (FitsSorts sorts) s.list
  count : length s.list + items_len ds ≡ total

more_losses-fit : (sorts : Sorts) (total : ℕ) (d : Data) (ds : Items) (s : Losses) → LossesLeft sorts total (item d ds) s → Gives (losses s d) (LossesLeft sorts total ds)
more_losses-fit sorts total d ds s h =
    bind (fault_entry s.sorts d) _ (FitsSorts sorts) (LossesLeft sorts total ds)
    (subst (λ (x : Sorts). Gives (fault_entry x d) (FitsSorts sorts)) (sym h.sorts_are) (fault_entry-fits sorts d))
    (λ f k. good (LossesLeft sorts total ds) (record s { list = s.list ++ f ∷ [] }) (record {
      sorts_are = h.sorts_are;
      each = each-append (FitsSorts sorts) s.list f h.each k;
      count = one_more s.list f (items_len ds) total h.count;
    }))

not-above : (n limit : ℕ) → nat_lt limit n ≡ false → n ≤ limit
not-above n limit h = grind (arith, nat_tests)

abbrev LoseFits : Sorts → ℕ → List Fault → Type 0
LoseFits sorts limit faults = (length faults ≤ limit) × Each (FitsSorts sorts) faults

lose_list-fits : (sorts : Sorts) (limit : ℕ) (ds : Items) → Gives (lose_list sorts limit ds) (LoseFits sorts limit)
unfolding lose_list
lose_list-fits sorts limit ds = unstopped (nat_lt limit (items_len ds)) _ (bad field.Lose why.Range) (LoseFits sorts limit)
    (λ e. let few : items_len ds ≤ limit = not-above (items_len ds) limit e in
    bind (entries losses (record { sorts = sorts; list = [] }) ds) _ (LossesLeft sorts (items_len ds) no_items) (LoseFits sorts limit)
    (entries-give losses (LossesLeft sorts (items_len ds)) (more_losses-fit sorts (items_len ds)) ds (record { sorts = sorts; list = [] })
    (record { sorts_are = refl; each = tt; count = omega arith }))
    (λ all h. good (LoseFits sorts limit) all.list (omega (arith, h.count), h.each)))

lose_value-fits : (sorts : Sorts) (limit : ℕ) (o : Option Items) → Gives (lose_value sorts limit o) (LoseFits sorts limit)
lose_value-fits sorts limit None = faulty (LoseFits sorts limit) _
lose_value-fits sorts limit (Some ds) = lose_list-fits sorts limit ds

lose_at-fits : (version : ℕ) (sorts : Sorts) (o : Option Data) → Gives (lose_at version sorts o) (LoseFits sorts (lose_limit version))
lose_at-fits version sorts None = good (LoseFits sorts (lose_limit version)) [] (omega arith, tt)
lose_at-fits version sorts (Some d) = lose_value-fits sorts (lose_limit version) (as_array d)

pub lose-fits : (version : ℕ) (sorts : Sorts) (d : Data) → Gives (lose version sorts d) (FitsLose version (FitsSorts sorts))
unfolding lose
lose-fits version sorts d = lose_at-fits version sorts (find field.Lose d)

-- ---- operations and words

abbrev pub IfNamed : Option CtrlOp → Type 0
IfNamed o = IfSome o IsNamed

op_named : (text : List ℕ) → IfNamed (op_of text)
unfolding op_of
op_named text = some_either (bytes_eq text (op_name op.Sleep)) (Some op.Sleep) _ IsNamed tt
    (some_either (bytes_eq text (op_name op.Write)) (Some op.Write) _ IsNamed tt (some_either (bytes_eq text (op_name op.Read)) (Some op.Read) _ IsNamed tt
    (some_either (bytes_eq text (op_name op.ReadWrite)) (Some op.ReadWrite) _ IsNamed tt (some_either (bytes_eq text (op_name op.BlockWrite)) (Some op.BlockWrite) _ IsNamed tt
    (some_either (bytes_eq text (op_name op.BlockRead)) (Some op.BlockRead) _ IsNamed tt (some_either (bytes_eq text (op_name op.Poll)) (Some op.Poll) _ IsNamed tt tt))))))

typed_op : (told : Field) (o : Option (List ℕ)) → Gives (typed told (option_map op_of o)) IfNamed
typed_op told None = faulty IfNamed _
typed_op told (Some text) = good IfNamed (op_of text) (op_named text)

pub operation-fits : (told : Field) (d : Data) → Gives (operation told d) IfNamed
operation-fits told d = typed_op told (as_str d)

record WordsLeft (range : Number) (ds : Items) (s : WordsSoFar) : Type 0 where
  range_is : s.range ≡ range
  few : length s.words ≤ 15
  each : Each (IsIn range) s.words

room_for : (n : ℕ) (b : Bool) → (nat_lt n 15 && b) ≡ true → n < 15
room_for n b h = let p : nat_lt n 15 ≡ true = (and_parts (nat_lt n 15) b h).0 in grind (arith, nat_tests)

more_words-fit : (range : Number) (d : Data) (ds : Items) (s : WordsSoFar) → WordsLeft range (item d ds) s → Gives (more_words s d) (WordsLeft range ds)
more_words-fit range d ds s h = let P = WordsLeft range ds in
    pass (whole s.range.told d) _ P λ m. bind (ranged s.range m) _ (IsIn s.range) P (ranged-fits s.range m) λ n k.
    passed (nat_lt (length s.words) 15 && nat_le n 4294967295) _ (bad s.range.told why.Range) P
    (λ e. let few : length s.words < 15 = room_for (length s.words) (nat_le n 4294967295) e in
    good P (record s { words = s.words ++ n ∷ [] }) (record {
      range_is = h.range_is;
      few = omega (arith, length-append s.words (n ∷ []));
      each = each-append (IsIn range) s.words n h.each (subst (λ (r : Number). IsIn r n) h.range_is k);
    }))

pub word_list-fits : (range : Number) (ds : Items) → Gives (word_list range ds) (FitsWords range)
unfolding word_list
word_list-fits range ds = bind (entries more_words (record { range = range; words = [] }) ds) _ (WordsLeft range no_items) (FitsWords range)
    (entries-give more_words (WordsLeft range) (more_words-fit range) ds (record { range = range; words = [] }) (record { range_is = refl; few = omega arith; each = tt }))
    (λ all h. good (FitsWords range) all.words (h.few, h.each))
