-- What is written of a list is read back.
use Rattle.std.proofs.Common.{◌≡◌, ℕ, ◌+◌, ◌≤◌, ◌<◌, ◌==◌, List, [], ◌∷◌, ◌++◌, length, map, true, false, Some, refl, sym, ap, ◌∙◌, append_assoc, append-nil, length-append, arith}
use Rattle.std.proofs.lemmas.Bool.Decides.{nat_tests}
use Rattle.std.specs.Prelude.{Ok, nat_lt, nat_le}
use Rattle.net_topology.specs.declared.plan.LinkPlan.{LinkPlan}
use Rattle.net_topology.specs.declared.plan.NodePlan.{NodePlan}
use Rattle.net_faults.specs.declared.fault.Fault.{Fault}
use Rattle.rf_script_types.specs.declared.field.Field.{Field}
use Rattle.rf_script_types.specs.declared.field.Field.TheVariants as field
use Rattle.rf_script_types.specs.declared.table.Number.{Number}
use Rattle.rf_script_types.specs.Fits.{IsIn, Each, FitsNode, FitsLink, FitsStreamFault, FitsPlainFault, FitsAnyFault, FitsLose, FitsWords}
use Rattle.rf_script_types.specs.Limits.{lose_limit}
use Rattle.rf_script_types.specs.Text.{whole, list, link_text, node_text, fault_text}
use Rattle.rf_script_parts.specs.declared.lose.Sorts.{Sorts}
use Rattle.rf_script_parts.specs.declared.lose.Sorts.TheVariants.{Stream, Plain, Any}
use Rattle.rf_script_parts.specs.Entries.{entries}
use Rattle.rf_script_parts.specs.Lose.{lose, lose_list, losses, fault_entry}
use Rattle.rf_script_parts.specs.Net.{node_list, node_field, more_nodes, link_list, link_field, more_links}
use Rattle.rf_script_parts.specs.Value.{find, within}
use Rattle.rf_script_parts.specs.Words.{check_words, word_list, wholes, more_words}
use Rattle.serde_json.specs.Data.{Data}
use Rattle.serde_json.specs.View.{items_of}
use Rattle.rf_script_round.proofs.BackLemmas.{within-in, entries-back, items_len-list}
use Rattle.rf_script_round.proofs.EntryBack.{link-back, node-back, stream_entry-back, plain_entry-back, any_entry-back}

one_loss : (sorts : Sorts) (P : Fault → Type 0) → ((f : Fault) → P f → fault_entry sorts (fault_text f) ≡ Ok f)
    → (done : List Fault) (f : Fault) → P f → losses (record { sorts = sorts; list = done }) (fault_text f) ≡ Ok (record { sorts = sorts; list = done ++ f ∷ [] })
one_loss sorts P back done f h = rw (back f h)

not-above : (n limit : ℕ) → n ≤ limit → nat_lt limit n ≡ false
not-above n limit h = grind (arith, nat_tests)

lose_list-back : (sorts : Sorts) (P : Fault → Type 0) (limit : ℕ) (faults : List Fault) → ((f : Fault) → P f → fault_entry sorts (fault_text f) ≡ Ok f)
    → length faults ≤ limit → Each P faults → lose_list sorts limit (items_of (map fault_text faults)) ≡ Ok faults
unfolding lose_list
lose_list-back sorts P limit faults back few h = rw (
  items_len-list fault_text faults,
  not-above (length faults) limit few,
  entries-back losses (λ done. record { sorts = sorts; list = done }) fault_text P (one_loss sorts P back) [] faults h,
)

lose-back : (version : ℕ) (sorts : Sorts) (P : Fault → Type 0) (d : Data) (faults : List Fault) → ((f : Fault) → P f → fault_entry sorts (fault_text f) ≡ Ok f)
    → find field.Lose d ≡ Some (list fault_text faults) → FitsLose version P faults → lose version sorts d ≡ Ok faults
unfolding lose
lose-back version sorts P d faults back e h = rw e (lose_list-back sorts P (lose_limit version) faults back h.0 h.1)

pub stream_lose-back : (version : ℕ) (d : Data) (faults : List Fault) → find field.Lose d ≡ Some (list fault_text faults)
    → FitsLose version FitsStreamFault faults → lose version Stream d ≡ Ok faults
stream_lose-back version d faults e h = lose-back version Stream FitsStreamFault d faults stream_entry-back e h

pub plain_lose-back : (version : ℕ) (d : Data) (faults : List Fault) → find field.Lose d ≡ Some (list fault_text faults)
    → FitsLose version FitsPlainFault faults → lose version Plain d ≡ Ok faults
plain_lose-back version d faults e h = lose-back version Plain FitsPlainFault d faults plain_entry-back e h

pub any_lose-back : (version : ℕ) (d : Data) (faults : List Fault) → find field.Lose d ≡ Some (list fault_text faults)
    → FitsLose version FitsAnyFault faults → lose version Any d ≡ Ok faults
any_lose-back version d faults e h = lose-back version Any FitsAnyFault d faults any_entry-back e h

-- ---- links and nodes

one_link : (done : List LinkPlan) (l : LinkPlan) → FitsLink l → more_links (record { list = done }) (link_text l) ≡ Ok (record { list = done ++ l ∷ [] })
one_link done l h = rw (link-back l h)

pub link_field-back : (d : Data) (links : List LinkPlan) → find field.Links d ≡ Some (list link_text links) → Each FitsLink links → link_field d ≡ Ok links
unfolding link_field link_list
link_field-back d links e h = rw (e, entries-back more_links (λ done. record { list = done }) link_text FitsLink one_link [] links h)

one_node : (version : ℕ) (done : List NodePlan) (n : NodePlan) → FitsNode n
    → more_nodes (record { version = version; list = done; names = [] }) (node_text n) ≡ Ok (record { version = version; list = done ++ n ∷ []; names = [] })
one_node version done n h = rw (node-back version [] n h)

not-zero : (n : ℕ) → 1 ≤ n → (n == 0) ≡ false
not-zero n h = grind (arith, nat_tests)

pub node_field-back : (version : ℕ) (d : Data) (nodes : List NodePlan) → find field.Nodes d ≡ Some (list node_text nodes) → 1 ≤ length nodes → Each FitsNode nodes
    → node_field version d ≡ Ok (record { version = version; list = nodes; names = [] })
unfolding node_field node_list
node_field-back version d nodes e some h = rw (
  e,
  items_len-list node_text nodes,
  not-zero (length nodes) some,
  entries-back more_nodes (λ done. record { version = version; list = done; names = [] }) node_text FitsNode (one_node version) [] nodes h,
)

-- ---- words

wholes-back : (told : Field) (words : List ℕ) → entries wholes (record { told = told }) (items_of (map whole words)) ≡ Ok (record { told = told })
wholes-back told [] = refl
wholes-back told (w ∷ words) = wholes-back told words

pub check_words-back : (told : Field) (words : List ℕ) → check_words told (items_of (map whole words)) ≡ Ok tt
unfolding check_words
check_words-back told words = rw (wholes-back told words)

-- a word of a range below 2^32 has a place as long as there are fewer than 15
more_words-back : (range : Number) → range.high ≤ 4294967295 → (done : List ℕ) (w : ℕ) → length done < 15 → IsIn range w
    → more_words (record { range = range; words = done }) (whole w) ≡ Ok (record { range = range; words = done ++ w ∷ [] })
more_words-back range high done w few h =
    let a : within range w ≡ true = within-in range w h in
    let b : nat_lt (length done) 15 ≡ true = grind (arith, nat_tests) in
    let c : nat_le w 4294967295 ≡ true = grind (arith, nat_tests) in
    rw (a, b, c)

words_from : (range : Number) → range.high ≤ 4294967295 → (done words : List ℕ) → length done + length words ≤ 15 → Each (IsIn range) words
    → entries more_words (record { range = range; words = done }) (items_of (map whole words)) ≡ Ok (record { range = range; words = done ++ words })
words_from range high done [] few h = ap (λ ws. Ok (record { range = range; words = ws })) (sym (append-nil done))
words_from range high done (w ∷ words) few h = rw (more_words-back range high done w (omega arith) h.0)
    (words_from range high (done ++ w ∷ []) words (omega (arith, length-append done (w ∷ []))) h.1 ∙ ap (λ ws. Ok (record { range = range; words = ws })) (append_assoc done (w ∷ []) words))

pub word_list-back : (range : Number) (words : List ℕ) → range.high ≤ 4294967295 → FitsWords range words → word_list range (items_of (map whole words)) ≡ Ok words
unfolding word_list
word_list-back range words high h = rw (words_from range high [] words (omega (arith, h.0)) h.1)
