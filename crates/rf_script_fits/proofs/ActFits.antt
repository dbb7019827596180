-- The acts of a duplex, as they are read, fit.
use Rattle.std.proofs.Common.{◌≡◌, ◌≢◌, ℕ, ◌+◌, ◌%◌, ◌≤◌, ◌==◌, ◌||◌, List, [], ◌∷◌, ◌++◌, length, length-append, Bool, true, false, Option, None, Some, refl, subst, sym, append_assoc, append-nil, arith}
use Rattle.std.proofs.lemmas.Bool.{or_parts}
use Rattle.std.proofs.lemmas.Bool.Decides.{nat_tests}
use Rattle.std.specs.Prelude.{Result, Ok, Err, IfSome, nat_lt}
use Rattle.chdr_words.specs.declared.control.CtrlOp.{CtrlOp}
use Rattle.chdr_words.specs.declared.epid.Epid.{Epid}
use Rattle.rf_script_types.specs.declared.act.Act.{Act}
use Rattle.rf_script_types.specs.declared.act.Act.TheVariants as act_is
use Rattle.rf_script_types.specs.declared.act.Due.{Due}
use Rattle.rf_script_types.specs.declared.field.Field.TheVariants as field
use Rattle.rf_script_types.specs.declared.fault.Why.TheVariants as why
use Rattle.rf_script_types.specs.declared.table.TheConstants.{ACT_STREAM, ACT_TAKEN, ACT_TO, ACT_PORT, ACT_ADDR, ACT_WORD, ACT_SLOT}
use Rattle.rf_script_types.specs.declared.words.ActWord.{ActWord}
use Rattle.rf_script_types.specs.declared.words.ActWord.TheVariants as word
use Rattle.rf_script_types.specs.Fits.{IsIn, FitsDue, FitsRequest, FitsAct, FitsActs, FitsWords, IsNamed}
use Rattle.rf_script_parts.specs.declared.pair.Pair.{Pair}
use Rattle.rf_script_parts.specs.Entries.{entries}
use Rattle.rf_script_parts.specs.Value.{bad, listed, required, ranged, sized, element}
use Rattle.rf_script_parts.specs.Words.{check_words, word_list}
use Rattle.rf_script_reader.specs.declared.acts.Parts.{Parts}
use Rattle.rf_script_reader.specs.declared.acts.ActsSoFar.{ActsSoFar}
use Rattle.rf_script_reader.specs.Acts.{act_word, due_pair, due_of, operation_in, operation_at, typed_parts, request_of, epid, act_of_parts, act_words_in, act_words_at, act_words, control_act, unload_act, move_act, act_of, act, more_acts, act_list, acts_in, acts}
use Rattle.serde_json.specs.Data.{Data, Items, no_items, item}
use Rattle.serde_json.specs.Events.{items_len}
use Rattle.serde_json.specs.Find.{at, as_array}
use Rattle.rf_script_fits.proofs.Gives.{Gives, good, faulty, bind, pass, after, unstopped, entries-give}
use Rattle.rf_script_fits.proofs.ValueFits.{ranged-fits, listed-fits}
use Rattle.rf_script_fits.proofs.EntryFits.{IfNamed, operation-fits, word_list-fits, one_more}

due_of-fits : (two : Pair) → Gives (due_of two) FitsDue
unfolding due_of
due_of-fits two = bind (ranged ACT_STREAM two.first) _ (IsIn ACT_STREAM) FitsDue (ranged-fits ACT_STREAM two.first)
    (λ s h. bind (ranged ACT_TAKEN two.second) _ (IsIn ACT_TAKEN) FitsDue (ranged-fits ACT_TAKEN two.second)
    (λ t k. good FitsDue (record { stream = s; taken = t }) (h, k)))

operation_in-fits : (o : Option Data) → Gives (operation_in o) IfNamed
operation_in-fits None = faulty IfNamed _
operation_in-fits (Some d) = operation-fits field.Acts d

operation_at-fits : (d : Data) → Gives (operation_at d) IfNamed
unfolding operation_at
operation_at-fits d = operation_in-fits (at 4 d)

abbrev PartsFit : Parts → Type 0
PartsFit parts = IfNamed parts.op

typed_parts-fit : (d : Data) → Gives (typed_parts d) PartsFit
unfolding typed_parts
typed_parts-fit d = let P = PartsFit in
    after (sized field.Acts 7 d) _ P (pass (due_pair d) _ P λ due. pass (element field.Acts 2 d) _ P λ to. pass (element field.Acts 3 d) _ P λ port.
    bind (operation_at d) _ IfNamed P (operation_at-fits d) λ op h. pass (element field.Acts 5 d) _ P λ addr.
    good P (record { due = due; to = to; port = port; op = op; addr = addr }) h)

act_of_parts-fit : (host : Epid) (number : ℕ) (parts : Parts) (words : List ℕ) → PartsFit parts → FitsWords ACT_WORD words
    → Gives (act_of_parts host number parts words) (FitsAct host number)
unfolding act_of_parts
act_of_parts-fit host number parts words named w = let P = FitsAct host number in
    bind (due_of parts.due) _ FitsDue P (due_of-fits parts.due) λ due d.
    bind (ranged ACT_TO parts.to) _ (IsIn ACT_TO) P (ranged-fits ACT_TO parts.to) λ to t.
    bind (ranged ACT_PORT parts.port) _ (IsIn ACT_PORT) P (ranged-fits ACT_PORT parts.port) λ port p.
    bind (listed field.Acts parts.op) _ IsNamed P (listed-fits field.Acts parts.op IsNamed named) λ op o.
    bind (ranged ACT_ADDR parts.addr) _ (IsIn ACT_ADDR) P (ranged-fits ACT_ADDR parts.addr) λ addr a.
    good P (act_is.Control due (epid to) (request_of host number port op addr words)) (
      d,
      t,
      record {
        source = refl;
        ack = refl;
        time = refl;
        seq = refl;
        src_port = refl;
        dst_port = p;
        status = refl;
        op = o;
        enables = refl;
        addr = a;
        words = w;
      },
    )

words_in-fit : (o : Option Items) → Gives (act_words_in o) (FitsWords ACT_WORD)
words_in-fit None = faulty (FitsWords ACT_WORD) _
words_in-fit (Some ds) = pass (check_words field.Acts ds) _ (FitsWords ACT_WORD) (λ _. word_list-fits ACT_WORD ds)

words_at-fit : (o : Option Data) → Gives (act_words_at o) (FitsWords ACT_WORD)
words_at-fit None = faulty (FitsWords ACT_WORD) _
words_at-fit (Some d) = words_in-fit (as_array d)

act_words-fit : (d : Data) → Gives (act_words d) (FitsWords ACT_WORD)
unfolding act_words
act_words-fit d = words_at-fit (at 6 d)

control_act-fits : (host : Epid) (number : ℕ) (d : Data) → Gives (control_act host number d) (FitsAct host number)
unfolding control_act
control_act-fits host number d = let P = FitsAct host number in
    bind (typed_parts d) _ PartsFit P (typed_parts-fit d) λ parts h. bind (act_words d) _ (FitsWords ACT_WORD) P (act_words-fit d) λ words w.
    act_of_parts-fit host number parts words h w

unload_act-fits : (host : Epid) (number : ℕ) (d : Data) → Gives (unload_act d) (FitsAct host number)
unfolding unload_act
unload_act-fits host number d = let P = FitsAct host number in
    after (sized field.Acts 3 d) _ P (pass (due_pair d) _ P λ two. pass (element field.Acts 2 d) _ P λ n. bind (due_of two) _ FitsDue P (due_of-fits two) λ due h.
    bind (ranged ACT_SLOT n) _ (IsIn ACT_SLOT) P (ranged-fits ACT_SLOT n) λ port k. good P (act_is.Unload due port) (h, k))

apart : (a b : ℕ) → (a == b) ≡ false → a ≢ b
apart a b e same = grind (arith, nat_tests)

move_act-fits : (host : Epid) (number : ℕ) (d : Data) → Gives (move_act d) (FitsAct host number)
unfolding move_act
move_act-fits host number d = let P = FitsAct host number in
    after (sized field.Acts 4 d) _ P (pass (due_pair d) _ P λ two. pass (element field.Acts 2 d) _ P λ x. pass (element field.Acts 3 d) _ P λ y.
    bind (due_of two) _ FitsDue P (due_of-fits two) λ due h. bind (ranged ACT_SLOT x) _ (IsIn ACT_SLOT) P (ranged-fits ACT_SLOT x) λ from k.
    bind (ranged ACT_SLOT y) _ (IsIn ACT_SLOT) P (ranged-fits ACT_SLOT y) λ to l.
    unstopped (from == to) (Ok (act_is.Move due from to)) (bad field.Acts why.Range) P (λ e. good P (act_is.Move due from to) (h, k, l, apart from to e)))

act_of-fits : (host : Epid) (number : ℕ) (d : Data) (w : ActWord) → Gives (act_of host number d w) (FitsAct host number)
act_of-fits host number d word.Control = control_act-fits host number d
act_of-fits host number d word.Unload = unload_act-fits host number d
act_of-fits host number d word.Move = move_act-fits host number d

act-fits : (host : Epid) (number : ℕ) (d : Data) → Gives (act host number d) (FitsAct host number)
unfolding act
act-fits host number d = pass (act_word d) (act_of host number d) (FitsAct host number) (act_of-fits host number d)

acts-append : (host : Epid) (done xs : List Act) (x : Act) → FitsActs host done xs → FitsAct host (length (done ++ xs) % 64) x → FitsActs host done (xs ++ x ∷ [])
acts-append host done [] x h k = (subst (λ (l : List Act). FitsAct host (length l % 64) x) (append-nil done) k, tt)
acts-append host done (y ∷ ys) x h k =
    (h.0, acts-append host (done ++ y ∷ []) ys x h.1 (subst (λ (l : List Act). FitsAct host (length l % 64) x) (sym (append_assoc done (y ∷ []) ys)) k))

record ActsLeft (host : Epid) (total : ℕ) (ds : Items) (s : ActsSoFar) : Type 0 where
  host_is : s.host ≡ host
  fit : FitsActs host [] s.list
  count : length s.list + items_len ds ≡ total

more_acts-fit : (host : Epid) (total : ℕ) (d : Data) (ds : Items) (s : ActsSoFar) → ActsLeft host total (item d ds) s → Gives (more_acts s d) (ActsLeft host total ds)
more_acts-fit host total d ds s h = let P = ActsLeft host total ds in
    bind (act s.host (length s.list % 64) d) _ (FitsAct s.host (length s.list % 64)) P (act-fits s.host (length s.list % 64) d)
    (λ one k. good P (record s { list = s.list ++ one ∷ [] }) (record {
      host_is = h.host_is;
      fit = acts-append host [] s.list one h.fit (subst (λ (e : Epid). FitsAct e (length s.list % 64) one) h.host_is k);
      count = one_more s.list one (items_len ds) total h.count;
    }))

some-left : (n : ℕ) (b : Bool) → ((n == 0) || b) ≡ false → 1 ≤ n
some-left n b h = let p : (n == 0) ≡ false = (or_parts (n == 0) b h).0 in grind (arith, nat_tests)

few-left : (n : ℕ) (b : Bool) → (b || nat_lt 64 n) ≡ false → n ≤ 64
few-left n b h = let p : nat_lt 64 n ≡ false = (or_parts b (nat_lt 64 n) h).1 in grind (arith, nat_tests)

pub record ActsFit (host : Epid) (acts : List Act) : Type 0 where
  pub some : 1 ≤ length acts
  pub few : length acts ≤ 64
  pub fit : FitsActs host [] acts

act_list-fits : (host : Epid) (ds : Items) → Gives (act_list host ds) (ActsFit host)
unfolding act_list
act_list-fits host ds = let P = ActsFit host in
    unstopped ((items_len ds == 0) || nat_lt 64 (items_len ds)) _ (bad field.Acts why.Range) P
    (λ e. let some : 1 ≤ items_len ds = some-left (items_len ds) (nat_lt 64 (items_len ds)) e in let few : items_len ds ≤ 64 = few-left (items_len ds) (items_len ds == 0) e in
    bind (entries more_acts (record { host = host; list = [] }) ds) _ (ActsLeft host (items_len ds) no_items) P
    (entries-give more_acts (ActsLeft host (items_len ds)) (more_acts-fit host (items_len ds)) ds (record { host = host; list = [] })
    (record { host_is = refl; fit = tt; count = omega arith }))
    (λ all h. good P all.list (record { some = omega (arith, h.count); few = omega (arith, h.count); fit = h.fit })))

acts_in-fit : (host : Epid) (o : Option Items) → Gives (acts_in host o) (ActsFit host)
acts_in-fit host None = faulty (ActsFit host) _
acts_in-fit host (Some ds) = act_list-fits host ds

pub acts-fit : (host : Epid) (d : Data) → Gives (acts host d) (ActsFit host)
unfolding acts
acts-fit host d = pass (required field.Acts field.Acts d) _ (ActsFit host) (λ v. acts_in-fit host (as_array v))
