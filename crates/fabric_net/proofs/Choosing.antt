-- Where a Tx has an offered packet for each stream on which something is ready, a net chooses as the machine does.
use Rattle.std.proofs.Common.{◌≡◌, ℕ, zero, suc, ◌<◌, Bool, true, false, List, [], ◌∷◌, ◌++◌, length, map, refl, sym, ◌∙◌, ap}
use Rattle.std.specs.Prelude.{◌&&◌, ◌==◌, IfSome, filter, if◌then◌else◌, nat_lt, slice_get}
use Rattle.std.specs.List.{AllByRecursion, flat_map, range_with_len}
use Rattle.std.proofs.Math.ListN.{get_or-map}
use Rattle.std.proofs.lemmas.Bool.{lt-ltb}
use Rattle.chdr_packets.specs.declared.packet.Packet.{Packet}
use Rattle.net_machine.specs.declared.event.Event.{Event}
use Rattle.net_machine.specs.declared.event.Event.TheVariants as event
use Rattle.net_machine.specs.Blocks.{has_packet}
use Rattle.net_machine.specs.Choice.{candidates, chosen, chosen_of, commands_of, enabled_list, feeds_of, listing, seed_after}
use Rattle.net_machine.specs.Conditions.{can_send, enabled, has_place_from, may}
use Rattle.net_machine.specs.Front.{Front, StreamFront, front_at}
use Rattle.net_machine.specs.Laws.{IsTaking}
use Rattle.net_machine.specs.Plans.{plan_at}
use Rattle.net_machine.specs.Queues.{forward_vc}
use Rattle.net_machine.specs.Seeds.{next_seed, place_in}
use Rattle.net_machine.specs.State.{State}
use Rattle.net_present.proofs.Laws.{fronts_agree, present_tells}
use Rattle.net_present.specs.Kept.{IsNow, idle_now, now_at}
use Rattle.net_present.specs.Onward.{enabled_now}
use Rattle.net_present.specs.Present.{Present, front_now, front_now_of}
use Rattle.stream_endpoint.specs.declared.flow.Flow.{Flow}
use Rattle.fabric_events.specs.Choosing.{chosen_now, doable_list, doable_now, is_handed, is_offered, seed_now}
use Rattle.fabric_lists.specs.Opened.{is_tx_stream}
use Rattle.fabric_net.specs.Offering.{AreSupplied}

-- ---- what is enabled can happen

sends-some : (flow : Flow) (st : StreamFront) (ready : List Packet) → can_send flow st ready ≡ true → has_packet ready ≡ true
sends-some flow st [] can = can
sends-some flow st (p ∷ ps) can = refl

first-of : (a b : Bool) → (a && b) ≡ true → a ≡ true
first-of true b both = refl
first-of false b both = both

with-offer : (a b : Bool) → (a ≡ true → b ≡ true) → (a && b) ≡ a
with-offer true b give = give refl
with-offer false b give = refl

if-tx : (b : Bool) (n : ℕ) → (b ≡ true → 0 < n) → (if b then nat_lt 0 n else true) ≡ true
if-tx true n some = lt-ltb 0 n (some refl)
if-tx false n some = refl

front-there : (p : Present) (s : ℕ) → front_at (front_now p) s ≡ front_now_of (now_at p.streams s)
front-there p s = get_or-map front_now_of p.streams s idle_now

enter-sends : (p : Present) (s : ℕ) → enabled_now p (event.Enter s) ≡ true → has_packet (now_at p.streams s).ready ≡ true
unfolding may
enter-sends p s is =
    let st = front_at (front_now p) s in
    let sends = sends-some (plan_at p.plan s).flow st st.ready (first-of (can_send (plan_at p.plan s).flow st st.ready) (has_place_from (front_now p) forward_vc (plan_at p.plan s).from) is) in
    ap (λ (f : StreamFront). has_packet f.ready) (sym (front-there p s)) ∙ sends

offers : (p : Present) (s : ℕ) → AreSupplied p → enabled_now p (event.Enter s) ≡ true → is_offered p s ≡ true
offers p s supplied is = if-tx (is_tx_stream p.plan s) (now_at p.streams s).offered (λ tx. supplied s tx (enter-sends p s is))

same-test : (p : Present) → AreSupplied p → (e : Event) → (IsTaking e → ⊥) → doable_now p e ≡ enabled_now p e
unfolding doable_now
same-test p supplied (event.Enter s) never = with-offer (enabled_now p (event.Enter s)) (is_offered p s) (offers p s supplied)
same-test p supplied (event.Hop q) never = refl
same-test p supplied (event.Seen s n) never = absurd (never tt)
same-test p supplied (event.Feed b i) never = refl
same-test p supplied (event.Report s) never = refl
same-test p supplied (event.Command s op) never = refl
same-test p supplied (event.Lose q) never = refl
same-test p supplied (event.Reply x) never = refl
same-test p supplied (event.Ask x) never = refl

-- ---- no candidate is a taking

abbrev pub NoTakings : List Event → Type 0
NoTakings events = AllByRecursion (λ (e : Event). IsTaking e → ⊥) events

none-joined : (xs ys : List Event) → NoTakings xs → NoTakings ys → NoTakings (xs ++ ys)
none-joined [] ys none others = others
none-joined (x ∷ xs) ys none others = (none.0, none-joined xs ys none.1 others)

none-mapped : (make : ℕ → Event) → ((k : ℕ) → IsTaking (make k) → ⊥) → (ns : List ℕ) → NoTakings (map make ns)
none-mapped make never [] = tt
none-mapped make never (n ∷ ns) = (never n, none-mapped make never ns)

none-flat : (make : ℕ → List Event) → ((k : ℕ) → NoTakings (make k)) → (ns : List ℕ) → NoTakings (flat_map make ns)
none-flat make never [] = tt
none-flat make never (n ∷ ns) = none-joined (make n) (flat_map make ns) (never n) (none-flat make never ns)

pub no-takings : (f : Front) → NoTakings (candidates f)
no-takings f =
    none-joined _ _ (none-mapped event.Enter (λ k t. t) (range_with_len 0 (length f.streams)))
    (none-joined _ _ (none-flat commands_of (λ k. (λ t. t, (λ t. t, (λ t. t, tt)))) (range_with_len 0 (length f.streams)))
    (none-joined _ _ (none-mapped event.Report (λ k t. t) (range_with_len 0 (length f.streams)))
    (none-joined _ _ (none-flat feeds_of (λ k. (λ t. t, (λ t. t, tt))) (range_with_len 0 (length f.plan.blocks)))
    (none-joined _ _ (none-mapped event.Reply (λ k t. t) (range_with_len 0 (length f.nodes)))
    (none-joined _ _ (none-mapped event.Ask (λ k t. t) (range_with_len 0 (length f.nodes)))
    (none-joined _ _ (none-mapped event.Lose (λ k t. t) (range_with_len 0 (length f.queues)))
    (none-mapped event.Hop (λ k t. t) (range_with_len 0 (length f.queues)))))))))

-- ---- the choice

same-if : (a b : Bool) (x : Event) (xs ys : List Event) → a ≡ b → xs ≡ ys → (if a then x ∷ xs else xs) ≡ (if b then x ∷ ys else ys)
same-if a b x xs ys test rest = ap (λ (c : Bool). if c then x ∷ xs else xs) test ∙ ap (λ (zs : List Event). if b then x ∷ zs else zs) rest

same-kept : (p q : Event → Bool) → ((e : Event) → (IsTaking e → ⊥) → p e ≡ q e) → (events : List Event) → NoTakings events
    → filter p events ≡ filter q events
same-kept p q same [] none = refl
same-kept p q same (e ∷ es) none = same-if (p e) (q e) e (filter p es) (filter q es) (same e none.0) (same-kept p q same es none.1)

pub same-list : (p : Present) (w : State) → AreSupplied p → IsNow p w → doable_list p ≡ enabled_list w
unfolding doable_list enabled_list
same-list p w supplied now =
    same-kept (doable_now p) (enabled w) (λ e never. same-test p supplied e never ∙ present_tells p w e now) (candidates (front_now p)) (no-takings (front_now p))
    ∙ ap (listing (enabled w)) (fronts_agree p w now)

pub same-choice : (seed : ℕ) (p : Present) (w : State) → AreSupplied p → IsNow p w → chosen_now seed p ≡ chosen seed w
same-choice seed p w supplied now = ap (chosen_of seed) (same-list p w supplied now)

pub same-seed : (seed : ℕ) (p : Present) (w : State) → AreSupplied p → IsNow p w → seed_now seed p ≡ seed_after seed (enabled_list w)
same-seed seed p w supplied now = ap (seed_after seed) (same-list p w supplied now)

-- ---- what is chosen can happen

passes-if : (test : Event → Bool) (b : Bool) (x : Event) (xs : List Event) → test x ≡ b → AllByRecursion (λ (e : Event). test e ≡ true) xs
    → AllByRecursion (λ (e : Event). test e ≡ true) (if b then x ∷ xs else xs)
passes-if test true x xs is rest = (is, rest)
passes-if test false x xs is rest = rest

all-pass : (test : Event → Bool) (events : List Event) → AllByRecursion (λ (e : Event). test e ≡ true) (filter test events)
all-pass test [] = tt
all-pass test (e ∷ es) = passes-if test (test e) e (filter test es) refl (all-pass test es)

at-pass : (test : Event → Bool) (events : List Event) (k : ℕ) → AllByRecursion (λ (e : Event). test e ≡ true) events
    → IfSome (slice_get events k) (λ (e : Event). test e ≡ true)
at-pass test [] k all = tt
at-pass test (e ∷ es) zero all = all.0
at-pass test (e ∷ es) (suc k) all = at-pass test es k all.1

by-seed : (test : Event → Bool) (b : Bool) (events : List Event) (k : ℕ) → AllByRecursion (λ (e : Event). test e ≡ true) events
    → IfSome (if b then slice_get events 0 else slice_get events k) (λ (e : Event). test e ≡ true)
by-seed test true events k all = at-pass test events 0 all
by-seed test false events k all = at-pass test events k all

pub chosen-can : (seed : ℕ) (p : Present) → IfSome (chosen_now seed p) (λ (e : Event). doable_now p e ≡ true)
unfolding doable_list
chosen-can seed p = by-seed (doable_now p) (seed == 0) (doable_list p) (place_in (length (doable_list p)) (next_seed seed)) (all-pass (doable_now p) (candidates (front_now p)))

-- what can happen is enabled
pub doable-enabled : (p : Present) (e : Event) → doable_now p e ≡ true → enabled_now p e ≡ true
unfolding doable_now
doable-enabled p (event.Enter s) can = first-of (enabled_now p (event.Enter s)) (is_offered p s) can
doable-enabled p (event.Hop q) can = can
doable-enabled p (event.Seen s n) can = first-of (enabled_now p (event.Seen s n)) (is_handed p s n) can
doable-enabled p (event.Feed b i) can = can
doable-enabled p (event.Report s) can = can
doable-enabled p (event.Command s op) can = can
doable-enabled p (event.Lose q) can = can
doable-enabled p (event.Reply x) can = can
doable-enabled p (event.Ask x) can = can
