-- A choice is enabled and misses none, and one thread's journal goes on to its end.
use Rattle.std.proofs.Common.{◌≡◌, ◌==◌, ℕ, ◌+◌, ◌/◌, ◌^◌, ◌≤◌, ◌<◌, ◌⊎◌, inl, inr, Bool, true, false, cond, List, [], ◌∷◌, ◌++◌, length, map, refl, ◌∙◌, ap, subst, arith, zero, suc, if◌then◌else◌}
use Rattle.std.specs.Prelude.{Option, Some, None, filter, slice_get, not, ◌&&◌}
use Rattle.std.specs.List.{AllByRecursion, find, flat_map, list_all, range_with_len}
use Rattle.std.specs.Option.{option_and_then, option_map_or}
use Rattle.std.proofs.lemmas.Bool.{cases_lt, false≢true}
use Rattle.std.proofs.lemmas.List.{get_or_past}
use Rattle.std.proofs.lemmas.Nat.{mod_below}
use Rattle.std.proofs.lemmas.Option.{slice_get_past}
use Rattle.chdr_words.specs.declared.epid.Epid.{Epid}
use Rattle.net_topology.specs.Links.{link_at}
use Rattle.stream_endpoint.specs.Sender.{is_running}
use Rattle.chdr_words.specs.declared.command.CmdOp.{CmdOp}
use Rattle.chdr_words.specs.declared.command.CmdOp.TheVariants.{Init, Ping, Resync, Other}
use Rattle.net_machine.specs.declared.event.Event.{Event}
use Rattle.net_machine.specs.declared.event.Event.TheVariants.{Enter, Hop, Seen, Feed, Report, Command, Lose, Reply, Ask}
use Rattle.net_machine.specs.declared.plan.BlockPlan.{BlockPlan}
use Rattle.net_machine.specs.Blocks.{has_packet, is_clear}
use Rattle.net_machine.specs.Choice.{candidates, chosen, chosen_of, commands_of, enabled_list, feeds_of, for_each}
use Rattle.net_machine.specs.Conditions.{can_feed, can_hop, can_lose, can_ping, can_repeat, can_reply, can_send, enabled, has_place_from, has_place_over, has_untaken, is_opening, is_resyncing, may}
use Rattle.net_machine.specs.Front.{Front, StreamFront, front, front_at, stream_front}
use Rattle.net_machine.specs.Laws.{ChosenIsEnabled, HasFewInputs, IsTaking, NothingIsChosen, OnlyTakes}
use Rattle.net_machine.specs.Plans.{block_at, is_rx, no_block, plan_at, stream_to}
use Rattle.net_machine.specs.Queues.{back_vc, forward_vc}
use Rattle.net_machine.specs.Seeds.{next_seed, place_in}
use Rattle.net_machine.specs.State.{Node, State, blank, idle}

-- ---- lists

-- what a filter leaves passes
filtered : {A : Type 0} (p : A → Bool) (xs : List A) → AllByRecursion (λ x. p x ≡ true) (filter p xs)
filtered p [] = tt
filtered {A} p (x ∷ xs) = by_test (filtered p xs) (p x) refl
  where
    by_test : AllByRecursion (λ y. p y ≡ true) (filter p xs) → (b : Bool) → p x ≡ b → AllByRecursion (λ y. p y ≡ true) (cond b (x ∷ filter p xs) (filter p xs))
    by_test rest true is = (is, rest)
    by_test rest false is = rest

-- where it leaves nothing, nothing passes
all-fail : {A : Type 0} (p : A → Bool) (xs : List A) → filter p xs ≡ [] → AllByRecursion (λ x. p x ≡ false) xs
all-fail p [] none = tt
all-fail {A} p (x ∷ xs) none = by_test (all-fail p xs) (p x) refl none
  where
    no_item : (ys : List A) → x ∷ ys ≡ [] → ⊥
    no_item ys e = cc

    by_test : (filter p xs ≡ [] → AllByRecursion (λ y. p y ≡ false) xs) → (b : Bool) → p x ≡ b → cond b (x ∷ filter p xs) (filter p xs) ≡ [] →
        (p x ≡ false) × AllByRecursion (λ y. p y ≡ false) xs
    by_test later true is left = absurd (no_item (filter p xs) left)
    by_test later false is left = (is, later left)

none-left : {A : Type 0} (p : A → Bool) (xs : List A) → AllByRecursion (λ x. p x ≡ false) xs → filter p xs ≡ []
none-left p [] fail = refl
none-left p (x ∷ xs) fail = rw fail.0 (none-left p xs fail.1)

one-of : {A : Type 0} (P : A → Type 0) (xs : List A) (k : ℕ) (x : A) → AllByRecursion P xs → slice_get xs k ≡ Some x → P x
one-of {A} P [] k x each is = let z : ◌≡◌ {A = Option A} None (Some x) = is in cc
one-of {A} P (y ∷ xs) zero x each is = let same : y ≡ x = cc in subst P same each.0
one-of P (y ∷ xs) (suc k) x each is = one-of P xs k x each.1 is

joined : {A : Type 0} (P : A → Type 0) (xs ys : List A) → AllByRecursion P xs → AllByRecursion P ys → AllByRecursion P (xs ++ ys)
joined P [] ys first rest = rest
joined P (x ∷ xs) ys first rest = (first.0, joined P xs ys first.1 rest)

parted : {A : Type 0} (P : A → Type 0) (xs ys : List A) → AllByRecursion P (xs ++ ys) → AllByRecursion P xs × AllByRecursion P ys
parted P [] ys each = (tt, each)
parted P (x ∷ xs) ys each = let p = parted P xs ys each.1 in ((each.0, p.0), p.1)

-- over a row of numbers
pub in-row : (P : ℕ → Type 0) (a n : ℕ) → AllByRecursion P (range_with_len a n) → (k : ℕ) → a ≤ k → k < a + n → P k
in-row P a zero each k low high = absurd (omega arith)
in-row P a (suc n) each k low high = by_place (in-row P (a + 1) n each.1 k) (cases_lt a k)
  where
    by_place : (a + 1 ≤ k → k < a + 1 + n → P k) → (a < k) ⊎ (k ≤ a) → P k
    by_place later (inl lt) = later (omega arith) (omega arith)
    by_place later (inr le) = let same : a ≡ k = omega arith in subst P same each.0

row : (P : ℕ → Type 0) (a n : ℕ) → ((k : ℕ) → P k) → AllByRecursion P (range_with_len a n)
row P a zero each = tt
row P a (suc n) each = (each a, row P (a + 1) n each)

mapped : {A B : Type 0} (P : B → Type 0) (f : A → B) (xs : List A) → AllByRecursion (λ x. P (f x)) xs → AllByRecursion P (map f xs)
mapped P f [] each = tt
mapped P f (x ∷ xs) each = (each.0, mapped P f xs each.1)

unmapped : {A B : Type 0} (P : B → Type 0) (f : A → B) (xs : List A) → AllByRecursion P (map f xs) → AllByRecursion (λ x. P (f x)) xs
unmapped P f [] each = tt
unmapped P f (x ∷ xs) each = (each.0, unmapped P f xs each.1)

flattened : {A B : Type 0} (P : B → Type 0) (f : A → List B) (xs : List A) → AllByRecursion (λ x. AllByRecursion P (f x)) xs → AllByRecursion P (flat_map f xs)
flattened P f [] each = tt
flattened P f (x ∷ xs) each = joined P (f x) (flat_map f xs) each.0 (flattened P f xs each.1)

unflattened : {A B : Type 0} (P : B → Type 0) (f : A → List B) (xs : List A) → AllByRecursion P (flat_map f xs) → AllByRecursion (λ x. AllByRecursion P (f x)) xs
unflattened P f [] each = tt
unflattened P f (x ∷ xs) each = let p = parted P (f x) (flat_map f xs) each in (p.0, unflattened P f xs p.1)

pub find-none : {A : Type 0} (p : A → Bool) (xs : List A) → find p xs ≡ None → AllByRecursion (λ x. p x ≡ false) xs
find-none p [] none = tt
find-none {A} p (x ∷ xs) none = by_test (find-none p xs) (p x) refl none
  where
    no_some : Some x ≡ None → ⊥
    no_some e = cc

    by_test : (find p xs ≡ None → AllByRecursion (λ y. p y ≡ false) xs) → (b : Bool) → p x ≡ b → cond b (Some x) (find p xs) ≡ None →
        (p x ≡ false) × AllByRecursion (λ y. p y ≡ false) xs
    by_test later true is left = absurd (no_some left)
    by_test later false is left = (is, later left)

pub find-some : {A : Type 0} (p : A → Bool) (xs : List A) (x : A) → find p xs ≡ Some x → p x ≡ true
find-some {A} p [] x found = let z : ◌≡◌ {A = Option A} None (Some x) = found in cc
find-some {A} p (y ∷ xs) x found = by_test (find-some p xs x) (p y) refl found
  where
    by_test : (find p xs ≡ Some x → p x ≡ true) → (b : Bool) → p y ≡ b → cond b (Some y) (find p xs) ≡ Some x → p x ≡ true
    by_test later true is here = let same : y ≡ x = cc in subst (λ z. p z ≡ true) same is
    by_test later false is here = later here

-- ---- what a choice takes

chosen-at : (seed : ℕ) (events : List Event) (e : Event) → chosen_of seed events ≡ Some e → (k : ℕ) × (slice_get events k ≡ Some e)
chosen-at seed events e is = by_seed (seed == 0) is
  where
    by_seed : (b : Bool) → (if b then slice_get events 0 else slice_get events (place_in (length events) (next_seed seed))) ≡ Some e → (k : ℕ) × (slice_get events k ≡ Some e)
    by_seed true at = (0, at)
    by_seed false at = (place_in (length events) (next_seed seed), at)

pub chosen-enabled : ChosenIsEnabled
unfolding enabled_list
chosen-enabled seed w e is =
    let at = chosen-at seed (enabled_list w) e is in
    one-of (λ x. enabled w x ≡ true) (enabled_list w) at.0 e (filtered (enabled w) (candidates (front w))) at.1

none-empty : (events : List Event) (k : ℕ) → k < length events → slice_get events k ≡ None → ⊥
none-empty [] k lt none = omega (arith, lt)
none-empty (e ∷ events) zero lt none = let z : ◌≡◌ {A = Option Event} (Some e) None = none in cc
none-empty (e ∷ events) (suc k) lt none = none-empty events k (omega (arith, lt)) none

place-within : (seed n : ℕ) → 0 < n → place_in n seed < n
place-within seed n some = mod_below (seed / 2 ^ 33) n some

chosen-none : (seed : ℕ) (events : List Event) → chosen_of seed events ≡ None → events ≡ []
chosen-none seed [] is = refl
chosen-none seed (e ∷ events) is = absurd (by_seed (seed == 0) is)
  where
    by_seed : (b : Bool) → (if b then slice_get (e ∷ events) 0 else slice_get (e ∷ events) (place_in (length (e ∷ events)) (next_seed seed))) ≡ None → ⊥
    by_seed true at = none-empty (e ∷ events) 0 (omega arith) at
    by_seed false at = none-empty (e ∷ events) (place_in (length (e ∷ events)) (next_seed seed)) (place-within (next_seed seed) (length (e ∷ events)) (omega arith)) at

chosen-nowhere : (seed : ℕ) → chosen_of seed [] ≡ None
chosen-nowhere seed = by_seed (seed == 0)
  where
    by_seed : (b : Bool) → ◌≡◌ {A = Option Event} (if b then slice_get [] 0 else slice_get [] (place_in 0 (next_seed seed))) None
    by_seed true = refl
    by_seed false = refl

-- ---- what isn't there is never enabled

pub split : (a b : Bool) → (a && b) ≡ true → (a ≡ true) × (b ≡ true)
split true b h = (refl, h)
split false b h = absurd (false≢true h)

pub both : (a b : Bool) → a ≡ true → b ≡ true → (a && b) ≡ true
both a b first second = rw (first, second) refl

pub and-false : (a : Bool) → (a && false) ≡ false
and-false true = refl
and-false false = refl

past-stream : (f : Front) (s : ℕ) → length f.streams ≤ s → front_at f s ≡ stream_front idle
past-stream f s past = get_or_past f.streams s (stream_front idle) past

no-enter : (f : Front) (s : ℕ) → length f.streams ≤ s → may f (Enter s) ≡ false
unfolding may
no-enter f s past =
    ap (λ (st : StreamFront). can_send (plan_at f.plan s).flow st st.ready && has_place_from f forward_vc (plan_at f.plan s).from) (past-stream f s past)

no-command : (f : Front) (s : ℕ) (op : CmdOp) → length f.streams ≤ s → may f (Command s op) ≡ false
unfolding may
no-command f s Init past =
    ap (λ (st : StreamFront). (is_opening st.state && can_repeat f s) && has_place_from f forward_vc (plan_at f.plan s).from) (past-stream f s past)
no-command f s Ping past =
    ap (λ (st : StreamFront). (is_running st.state && can_ping f s) && has_place_from f forward_vc (plan_at f.plan s).from) (past-stream f s past)
no-command f s Resync past =
    ap (λ (st : StreamFront). (is_resyncing st.state && can_repeat f s) && has_place_from f forward_vc (plan_at f.plan s).from) (past-stream f s past)
no-command f s (Other code) past = refl

no-other : (f : Front) (s code : ℕ) → may f (Command s (Other code)) ≡ false
unfolding may
no-other f s code = refl

no-report : (f : Front) (s : ℕ) → length f.streams ≤ s → may f (Report s) ≡ false
unfolding may
no-report f s past =
    ap (λ (st : StreamFront). st.due && has_place_from f back_vc (plan_at f.plan s).to) (past-stream f s past)

no-block-fed : (f : Front) (b i : ℕ) → length f.plan.blocks ≤ b → may f (Feed b i) ≡ false
unfolding may
no-block-fed f b i past = ap (λ (block : BlockPlan). can_feed f block i) (get_or_past f.plan.blocks b no_block past)

no-input-fed : (f : Front) (b i : ℕ) → length (block_at f.plan b).ins ≤ i → may f (Feed b i) ≡ false
unfolding may
no-input-fed f b i past =
    let block = block_at f.plan b in
    ap (λ (o : Option Epid). not (is_rx block.kind) && (option_map_or (has_untaken f) (option_and_then (stream_to f.plan) o) false && list_all (is_clear f) block.outs))
    (slice_get_past block.ins i past)
    ∙ and-false (not (is_rx block.kind))

no-reply : (f : Front) (x : ℕ) → length f.nodes ≤ x → may f (Reply x) ≡ false
unfolding may
no-reply f x past = ap (λ (n : Node). can_reply f x n.pending) (get_or_past f.nodes x blank past)

no-ask : (f : Front) (x : ℕ) → length f.nodes ≤ x → may f (Ask x) ≡ false
unfolding may
no-ask f x past =
    ap (λ (n : Node). has_packet n.requests && has_place_over f forward_vc (link_at f.tree.links x 0)) (get_or_past f.nodes x blank past)

no-lose : (f : Front) (q : ℕ) → length f.queues ≤ q → may f (Lose q) ≡ false
unfolding may
no-lose f q past = ap can_lose (get_or_past f.queues q [] past)

no-hop : (f : Front) (q : ℕ) → length f.queues ≤ q → may f (Hop q) ≡ false
unfolding may
no-hop f q past = ap (can_hop f q) (get_or_past f.queues q [] past)

-- ---- all candidates

-- each sort of candidates has the property
record Sorts (f : Front) (P : Event → Type 0) : Type 0 where
  enters : AllByRecursion (λ s. P (Enter s)) (range_with_len 0 (length f.streams))
  commands : AllByRecursion (λ s. AllByRecursion P (commands_of s)) (range_with_len 0 (length f.streams))
  reports : AllByRecursion (λ s. P (Report s)) (range_with_len 0 (length f.streams))
  feeds : AllByRecursion (λ b. AllByRecursion P (feeds_of b)) (range_with_len 0 (length f.plan.blocks))
  replies : AllByRecursion (λ x. P (Reply x)) (range_with_len 0 (length f.nodes))
  asks : AllByRecursion (λ x. P (Ask x)) (range_with_len 0 (length f.nodes))
  losses : AllByRecursion (λ q. P (Lose q)) (range_with_len 0 (length f.queues))
  hops : AllByRecursion (λ q. P (Hop q)) (range_with_len 0 (length f.queues))

sorted : (f : Front) (P : Event → Type 0) → AllByRecursion P (candidates f) → Sorts f P
sorted f P each =
    let n = length f.streams in
    let a = parted P (for_each Enter n) _ each in
    let b = parted P (flat_map commands_of (range_with_len 0 n)) _ a.1 in
    let c = parted P (for_each Report n) _ b.1 in
    let d = parted P (flat_map feeds_of (range_with_len 0 (length f.plan.blocks))) _ c.1 in
    let e = parted P (for_each Reply (length f.nodes)) _ d.1 in
    let g = parted P (for_each Ask (length f.nodes)) _ e.1 in
    let h = parted P (for_each Lose (length f.queues)) _ g.1 in
    record {
      enters = unmapped P Enter (range_with_len 0 n) a.0;
      commands = unflattened P commands_of (range_with_len 0 n) b.0;
      reports = unmapped P Report (range_with_len 0 n) c.0;
      feeds = unflattened P feeds_of (range_with_len 0 (length f.plan.blocks)) d.0;
      replies = unmapped P Reply (range_with_len 0 (length f.nodes)) e.0;
      asks = unmapped P Ask (range_with_len 0 (length f.nodes)) g.0;
      losses = unmapped P Lose (range_with_len 0 (length f.queues)) h.0;
      hops = unmapped P Hop (range_with_len 0 (length f.queues)) h.1;
    }

gathered : (f : Front) (P : Event → Type 0) → Sorts f P → AllByRecursion P (candidates f)
gathered f P each =
    let n = length f.streams in
    joined P (for_each Enter n) _ (mapped P Enter (range_with_len 0 n) each.enters)
    (joined P (flat_map commands_of (range_with_len 0 n)) _ (flattened P commands_of (range_with_len 0 n) each.commands)
    (joined P (for_each Report n) _ (mapped P Report (range_with_len 0 n) each.reports)
    (joined P (flat_map feeds_of (range_with_len 0 (length f.plan.blocks))) _ (flattened P feeds_of (range_with_len 0 (length f.plan.blocks)) each.feeds)
    (joined P (for_each Reply (length f.nodes)) _ (mapped P Reply (range_with_len 0 (length f.nodes)) each.replies)
    (joined P (for_each Ask (length f.nodes)) _ (mapped P Ask (range_with_len 0 (length f.nodes)) each.asks)
    (joined P (for_each Lose (length f.queues)) _ (mapped P Lose (range_with_len 0 (length f.queues)) each.losses)
    (mapped P Hop (range_with_len 0 (length f.queues)) each.hops)))))))

-- what holds below a bound and past it
either : (P : ℕ → Type 0) (n : ℕ) → AllByRecursion P (range_with_len 0 n) → ((k : ℕ) → n ≤ k → P k) → (k : ℕ) → P k
either P n each past k = by_order (cases_lt k n)
  where
    by_order : (k < n) ⊎ (n ≤ k) → P k
    by_order (inl lt) = in-row P 0 n each k (omega arith) (omega (arith, lt))
    by_order (inr le) = past k le

each-fails : (w : State) → HasFewInputs w.plan → AllByRecursion (λ e. enabled w e ≡ false) (candidates (front w)) → OnlyTakes w
each-fails w few fails = by_event (sorted (front w) (λ e. enabled w e ≡ false) fails)
  where
    by_command : AllByRecursion (λ s. AllByRecursion (λ e. enabled w e ≡ false) (commands_of s)) (range_with_len 0 (length (front w).streams)) →
        (s : ℕ) (op : CmdOp) → enabled w (Command s op) ≡ false
    by_command each s Init = (either (λ k. AllByRecursion (λ e. enabled w e ≡ false) (commands_of k)) (length (front w).streams) each
        (λ k past. (no-command (front w) k Init past, (no-command (front w) k Ping past, (no-command (front w) k Resync past, tt)))) s).0
    by_command each s Ping = (either (λ k. AllByRecursion (λ e. enabled w e ≡ false) (commands_of k)) (length (front w).streams) each
        (λ k past. (no-command (front w) k Init past, (no-command (front w) k Ping past, (no-command (front w) k Resync past, tt)))) s).1.0
    by_command each s Resync = (either (λ k. AllByRecursion (λ e. enabled w e ≡ false) (commands_of k)) (length (front w).streams) each
        (λ k past. (no-command (front w) k Init past, (no-command (front w) k Ping past, (no-command (front w) k Resync past, tt)))) s).1.1.0
    by_command each s (Other code) = no-other (front w) s code

    by_feed : ((b : ℕ) → AllByRecursion (λ e. enabled w e ≡ false) (feeds_of b)) → (b i : ℕ) → enabled w (Feed b i) ≡ false
    by_feed each b zero = (each b).0
    by_feed each b (suc zero) = (each b).1.0
    by_feed each b (suc (suc i)) = let most = few b in no-input-fed (front w) b (suc (suc i)) (omega (arith, most))

    by_event : Sorts (front w) (λ e. enabled w e ≡ false) → (e : Event) → (IsTaking e → ⊥) → enabled w e ≡ false
    by_event s (Enter k) other = either (λ j. enabled w (Enter j) ≡ false) (length (front w).streams) s.enters (no-enter (front w)) k
    by_event s (Command k op) other = by_command s.commands k op
    by_event s (Report k) other = either (λ j. enabled w (Report j) ≡ false) (length (front w).streams) s.reports (no-report (front w)) k
    by_event s (Seen k n) other = absurd (other tt)
    by_event s (Feed b i) other = by_feed (either (λ j. AllByRecursion (λ e. enabled w e ≡ false) (feeds_of j)) (length (front w).plan.blocks) s.feeds
        (λ j past. (no-block-fed (front w) j 0 past, (no-block-fed (front w) j 1 past, tt)))) b i
    by_event s (Ask x) other = either (λ j. enabled w (Ask j) ≡ false) (length (front w).nodes) s.asks (no-ask (front w)) x
    by_event s (Reply x) other = either (λ j. enabled w (Reply j) ≡ false) (length (front w).nodes) s.replies (no-reply (front w)) x
    by_event s (Lose q) other = either (λ j. enabled w (Lose j) ≡ false) (length (front w).queues) s.losses (no-lose (front w)) q
    by_event s (Hop q) other = either (λ j. enabled w (Hop j) ≡ false) (length (front w).queues) s.hops (no-hop (front w)) q

only-fail : (w : State) → OnlyTakes w → AllByRecursion (λ e. enabled w e ≡ false) (candidates (front w))
only-fail w only =
    let f = front w in
    gathered f (λ e. enabled w e ≡ false) (record {
      enters = row (λ s. enabled w (Enter s) ≡ false) 0 (length f.streams) (λ s. only (Enter s) (λ t. t));
      commands = row (λ s. AllByRecursion (λ e. enabled w e ≡ false) (commands_of s)) 0 (length f.streams)
          (λ s. (only (Command s Init) (λ t. t), (only (Command s Ping) (λ t. t), (only (Command s Resync) (λ t. t), tt))));
      reports = row (λ s. enabled w (Report s) ≡ false) 0 (length f.streams) (λ s. only (Report s) (λ t. t));
      feeds = row (λ b. AllByRecursion (λ e. enabled w e ≡ false) (feeds_of b)) 0 (length f.plan.blocks)
          (λ b. (only (Feed b 0) (λ t. t), (only (Feed b 1) (λ t. t), tt)));
      replies = row (λ x. enabled w (Reply x) ≡ false) 0 (length f.nodes) (λ x. only (Reply x) (λ t. t));
      asks = row (λ x. enabled w (Ask x) ≡ false) 0 (length f.nodes) (λ x. only (Ask x) (λ t. t));
      losses = row (λ q. enabled w (Lose q) ≡ false) 0 (length f.queues) (λ q. only (Lose q) (λ t. t));
      hops = row (λ q. enabled w (Hop q) ≡ false) 0 (length f.queues) (λ q. only (Hop q) (λ t. t));
    })

pub none-only : (seed : ℕ) (w : State) → HasFewInputs w.plan → chosen seed w ≡ None → OnlyTakes w
unfolding enabled_list
none-only seed w few none = each-fails w few (all-fail (enabled w) (candidates (front w)) (chosen-none seed (enabled_list w) none))

only-none : (seed : ℕ) (w : State) → OnlyTakes w → chosen seed w ≡ None
unfolding enabled_list
only-none seed w only = ap (chosen_of seed) (none-left (enabled w) (candidates (front w)) (only-fail w only)) ∙ chosen-nowhere seed

pub nothing-chosen : NothingIsChosen
nothing-chosen seed w few = (none-only seed w few, only-none seed w)
