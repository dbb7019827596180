-- At which places of the order of choosing no stream and no block has an event, by their flags.
use Rattle.std.proofs.Common.{◌≡◌, ℕ, zero, suc, ◌+◌, ◌-◌, ◌*◌, ◌<◌, ◌≤◌, Bool, true, false, List, [], ◌∷◌, ◌++◌, length, refl, sym, ◌∙◌, ap, subst, get_or, max, Some, arith}
use Rattle.std.specs.Prelude.{◌&&◌, ◌/◌, ◌%◌, if◌then◌else◌, map, nat_lt, not, slice_get, slice_index_or}
use Rattle.std.specs.List.{flat_map, list_all, range_with_len}
use Rattle.std.specs.Option.{option_and_then, option_map_or}
use Rattle.std.proofs.Math.ListN.{get_or-map}
use Rattle.std.proofs.lemmas.Bool.{false≢true, lt-ltb}
use Rattle.std.proofs.lemmas.List.{length-map}
use Rattle.chdr_words.specs.declared.command.CmdOp.{CmdOp}
use Rattle.chdr_words.specs.declared.command.CmdOp.TheVariants.{Init, Ping, Resync}
use Rattle.chdr_words.specs.declared.epid.Epid.{Epid}
use Rattle.stream_endpoint.specs.Orders.{may_order}
use Rattle.stream_endpoint.specs.Receiver.{is_due}
use Rattle.fabric_flags.specs.Set.{IsNext, NoneFrom, flag_at}
use Rattle.net_machine.specs.declared.event.Event.{Event}
use Rattle.net_machine.specs.declared.event.Event.TheVariants.{Ask, Command, Enter, Feed, Hop, Lose, Reply, Report}
use Rattle.net_machine.specs.Blocks.{is_clear}
use Rattle.net_machine.specs.Choice.{commands_of, feeds_of, for_each}
use Rattle.net_machine.specs.Conditions.{can_order, can_send, has_place_from, has_untaken, is_stuck, may}
use Rattle.net_machine.specs.Front.{Front, StreamFront, front_at}
use Rattle.net_machine.specs.Plans.{block_at, is_rx, no_block, no_stream, plan_at, stream_to}
use Rattle.net_machine.specs.declared.plan.BlockPlan.{BlockPlan}
use Rattle.net_machine.specs.declared.plan.RunPlan.{RunPlan}
use Rattle.net_machine.specs.declared.plan.StreamPlan.{StreamPlan}
use Rattle.net_present.specs.Kept.{idle_now, now_at}
use Rattle.net_present.specs.Present.{Present, StreamNow, front_now, front_now_of}
use Rattle.fabric_parts.specs.Streams.{StreamSeen}
use Rattle.fabric_lists.specs.Opened.{is_fed, is_tx_stream}
use Rattle.fabric_lists.specs.StreamFlags.{could_order, flags_of, is_calm, is_owing, is_sending, orders_in}
use Rattle.fabric_lists.specs.StreamsView.{now_in, plan_in, streams_of, tx_in}
use Rattle.fabric_events.specs.declared.candidates.Sizes.{Sizes}
use Rattle.fabric_events.specs.declared.fabric.Fabric.{Fabric}
use Rattle.fabric_events.specs.Choosing.{IsStill, doable_now, is_offered, sizes_of}
use Rattle.fabric_events.specs.Fabrics.{IsSound, present_of}
use Rattle.fabric_events.specs.Sizes.{candidates_in, first_feed, first_order, first_reply, first_report}
use Rattle.fabric_events.proofs.FrontLemmas.{and_false, front_of_stream, tx_there}
use Rattle.fabric_events.proofs.NodeStillLemmas.{set_within}
use Rattle.fabric_events.proofs.OrderLemmas.{order_calm}
use Rattle.fabric_events.proofs.PlaceLemmas.{among, behind, commands_at, commands_length, each_at, each_length, feeds_at, feeds_length}
use Rattle.fabric_events.proofs.StillLemmas.{later, same_event}

-- what stands for a stream that isn't there
abbrev blank : StreamSeen
blank = record { plan = no_stream; is_tx = false; now = idle_now }

-- each event stands at its place
abbrev past_orders : Sizes → List Event
past_orders s = for_each Report s.streams ++ (flat_map feeds_of (range_with_len 0 s.blocks) ++ later s)

enter_at : (s : Sizes) (x : ℕ) → x < s.streams → slice_get (candidates_in s) x ≡ Some (Enter x)
enter_at s x h =
    among (for_each Enter s.streams) (flat_map commands_of (range_with_len 0 s.streams) ++ past_orders s) s.streams x (Some (Enter x))
    (each_length Enter s.streams) h (each_at Enter s.streams x h)

order_at : (s : Sizes) (c : ℕ) → c < 3 * s.streams → slice_get (candidates_in s) (s.streams + c) ≡ slice_get (commands_of (c / 3)) (c % 3)
order_at s c h =
    let orders = flat_map commands_of (range_with_len 0 s.streams) in
    let r = slice_get (commands_of (c / 3)) (c % 3) in
    let e : s.streams + c - s.streams ≡ c = omega arith in
    behind (for_each Enter s.streams) (orders ++ past_orders s) s.streams (s.streams + c) r (each_length Enter s.streams) (omega arith)
    (ap (λ (n : ℕ). slice_get (orders ++ past_orders s) n) e
    ∙ among orders (past_orders s) (3 * s.streams) c r (commands_length s.streams) h (commands_at s.streams c h))

report_at : (s : Sizes) (x : ℕ) → x < s.streams → slice_get (candidates_in s) (4 * s.streams + x) ≡ Some (Report x)
report_at s x h =
    let orders = flat_map commands_of (range_with_len 0 s.streams) in
    let reports = for_each Report s.streams in
    let rest = flat_map feeds_of (range_with_len 0 s.blocks) ++ later s in
    let place = 4 * s.streams + x in
    let e : place - s.streams - 3 * s.streams ≡ x = omega arith in
    behind (for_each Enter s.streams) (orders ++ past_orders s) s.streams place (Some (Report x)) (each_length Enter s.streams) (omega arith)
    (behind orders (past_orders s) (3 * s.streams) (place - s.streams) (Some (Report x)) (commands_length s.streams) (omega arith)
    (ap (λ (n : ℕ). slice_get (reports ++ rest) n) e
    ∙ among reports rest s.streams x (Some (Report x)) (each_length Report s.streams) h (each_at Report s.streams x h)))

feed_at : (s : Sizes) (c : ℕ) → c < 2 * s.blocks → slice_get (candidates_in s) (5 * s.streams + c) ≡ slice_get (feeds_of (c / 2)) (c % 2)
feed_at s c h =
    let orders = flat_map commands_of (range_with_len 0 s.streams) in
    let reports = for_each Report s.streams in
    let feeds = flat_map feeds_of (range_with_len 0 s.blocks) in
    let r = slice_get (feeds_of (c / 2)) (c % 2) in
    let place = 5 * s.streams + c in
    let e : place - s.streams - 3 * s.streams - s.streams ≡ c = omega arith in
    behind (for_each Enter s.streams) (orders ++ past_orders s) s.streams place r (each_length Enter s.streams) (omega arith)
    (behind orders (past_orders s) (3 * s.streams) (place - s.streams) r (commands_length s.streams) (omega arith)
    (behind reports (feeds ++ later s) s.streams (place - s.streams - 3 * s.streams) r (each_length Report s.streams) (omega arith)
    (ap (λ (n : ℕ). slice_get (feeds ++ later s) n) e
    ∙ among feeds (later s) (2 * s.blocks) c r (feeds_length s.blocks) h (feeds_at s.blocks c h))))

-- The events at the places from m on, so many that m + c is the first place behind them: where `on` is false of a place
-- among them, the event there can't happen.
abbrev IsIdle : Present → Sizes → ℕ → ℕ → (ℕ → Bool) → Type 0
IsIdle p s m c on = (j : ℕ) (e : Event) → j < c → on j ≡ false → slice_get (candidates_in s) (m + j) ≡ Some e → doable_now p e ≡ false

-- so no event can happen up to a place before which none is on
still_up_to : (p : Present) (s : Sizes) (m c : ℕ) (on : ℕ → Bool) → IsIdle p s m c on → (k n : ℕ) → m ≤ k → n ≤ m + c
    → ((j : ℕ) → k - m ≤ j → m + j < n → on j ≡ false) → IsStill p s k n
still_up_to p s m c on idle k n from to none = λ i e low high is.
    let at : m + (i - m) ≡ i = omega arith in
    idle (i - m) e (omega arith) (none (i - m) (omega arith) (omega arith)) (ap (slice_get (candidates_in s)) at ∙ is)

-- where the flags of three commands of each stream stand
pub orders_count : (parts : List StreamSeen) → length (flat_map orders_in parts) ≡ 3 * length parts
orders_count [] = refl
orders_count (p ∷ ps) =
    let rest : length (flat_map orders_in ps) ≡ 3 * length ps = orders_count ps in
    let here : length (flat_map orders_in (p ∷ ps)) ≡ suc (suc (suc (length (flat_map orders_in ps)))) = refl in
    let more : length (p ∷ ps) ≡ suc (length ps) = refl in
    omega arith

order_flag : (parts : List StreamSeen) (c : ℕ) → c < 3 * length parts
    → flag_at (flat_map orders_in parts) c ≡ slice_index_or (orders_in (get_or parts (c / 3) blank)) (c % 3) false
order_flag [] c h = absurd (omega arith)
order_flag (p ∷ ps) zero h = refl
order_flag (p ∷ ps) (suc zero) h = refl
order_flag (p ∷ ps) (suc (suc zero)) h = refl
order_flag (p ∷ ps) (suc (suc (suc c))) h =
    let e : suc (c / 3) ≡ (suc (suc (suc c))) / 3 = omega arith in
    let r : c % 3 ≡ (suc (suc (suc c))) % 3 = omega arith in
    order_flag ps c (omega arith)
    ∙ ap (λ n. slice_index_or (orders_in (get_or (p ∷ ps) n blank)) (c % 3) false) e
    ∙ ap (λ n. slice_index_or (orders_in (get_or (p ∷ ps) ((suc (suc (suc c))) / 3) blank)) n false) r

both_less : (can place offered : Bool) → (can && offered) ≡ false → ((can && place) && offered) ≡ false
both_less true true offered h = h
both_less true false offered h = refl
both_less false place offered h = refl

first_less : (a place : Bool) → a ≡ false → (a && place) ≡ false
first_less true place h = absurd (false≢true (sym h))
first_less false place h = refl

-- a block with no input is fed nothing
fed_none : (f : Front) (rx clear : Bool) (ins : List Epid) (i : ℕ) → (not rx && nat_lt 0 (length ins)) ≡ false
    → (not rx && (option_map_or (has_untaken f) (option_and_then (stream_to f.plan) (slice_get ins i)) false && clear)) ≡ false
fed_none f true clear ins i h = refl
fed_none f false clear [] zero h = refl
fed_none f false clear [] (suc i) h = refl
fed_none f false clear (x ∷ xs) i h = absurd (false≢true (sym h ∙ lt-ltb 0 (length (x ∷ xs)) (omega arith)))

-- what a stream tells of an Enter and of a command, by its plan and by what is kept of it
abbrev sends : StreamPlan → Bool → StreamNow → Bool
sends plan tx n = can_send plan.flow (front_now_of n) n.ready && (if tx then nat_lt 0 n.offered else true)

abbrev orders : CmdOp → StreamPlan → StreamNow → Bool
orders op plan n = may_order n.sender (is_calm n) (is_stuck plan.flow (front_now_of n) true n.ready) op

-- Of a sound fabric with these sizes:
module _ (f : Fabric) (s : Sizes) (sound : IsSound f) (many : s ≡ sizes_of (present_of f)) where
  streams_are : s.streams ≡ length f.streams.items
  streams_are = ap (λ (z : Sizes). z.streams) many ∙ length-map f.streams.items now_in

  blocks_are : s.blocks ≡ length f.plan.blocks
  blocks_are = ap (λ (z : Sizes). z.blocks) many

  plan_is : (x : ℕ) → (get_or f.streams.items x blank).plan ≡ plan_at f.plan x
  plan_is x = sym (get_or-map plan_in f.streams.items x blank) ∙ ap (λ (ps : List StreamPlan). get_or ps x no_stream) sound.plans

  now_is : (x : ℕ) → (get_or f.streams.items x blank).now ≡ now_at (present_of f).streams x
  now_is x = sym (get_or-map now_in f.streams.items x blank)

  tx_is : (x : ℕ) → x < s.streams → (get_or f.streams.items x blank).is_tx ≡ is_tx_stream f.plan x
  tx_is x there =
      let many = streams_are in
      let within : x < length f.streams.items = omega arith in
      sym (get_or-map tx_in f.streams.items x blank) ∙ tx_there f x sound within

  idle_enter : (x : ℕ) → x < s.streams → is_sending (get_or f.streams.items x blank) ≡ false → doable_now (present_of f) (Enter x) ≡ false
  unfolding doable_now may
  idle_enter x there h =
      let p = present_of f in
      let part = get_or f.streams.items x blank in
      let n = now_at p.streams x in
      let flow = (plan_at f.plan x).flow in
      let told : sends (plan_at f.plan x) (is_tx_stream f.plan x) n ≡ false =
      sym (ap (λ (plan : StreamPlan). sends plan part.is_tx part.now) (plan_is x)
      ∙ ap (λ tx. sends (plan_at f.plan x) tx part.now) (tx_is x there)
      ∙ ap (λ (now : StreamNow). sends (plan_at f.plan x) (is_tx_stream f.plan x) now) (now_is x)) ∙ h in
      both_less (can_send flow (front_at (front_now p) x) (front_at (front_now p) x).ready) (has_place_from (front_now p) 0 (plan_at f.plan x).from) (is_offered p x)
      (ap (λ (st : StreamFront). can_send flow st st.ready && is_offered p x) (front_of_stream p x) ∙ told)

  idle_report : (x : ℕ) → is_owing (get_or f.streams.items x blank) ≡ false → doable_now (present_of f) (Report x) ≡ false
  unfolding doable_now may
  idle_report x h =
      let p = present_of f in
      let told : is_due (now_at p.streams x).receiver ≡ false = sym (ap (λ (now : StreamNow). is_due now.receiver) (now_is x)) ∙ h in
      first_less (front_at (front_now p) x).due (has_place_from (front_now p) 1 (plan_at f.plan x).to)
      (ap (λ (st : StreamFront). st.due) (front_of_stream p x) ∙ told)

  idle_order : (x : ℕ) (op : CmdOp) → could_order op (get_or f.streams.items x blank) ≡ false → doable_now (present_of f) (Command x op) ≡ false
  unfolding doable_now may
  idle_order x op h =
      let p = present_of f in
      let part = get_or f.streams.items x blank in
      let told : orders op (plan_at f.plan x) (now_at p.streams x) ≡ false =
      sym (ap (λ (plan : StreamPlan). orders op plan part.now) (plan_is x)
      ∙ ap (λ (now : StreamNow). orders op (plan_at f.plan x) now) (now_is x)) ∙ h in
      first_less (can_order (front_now p) x op) (has_place_from (front_now p) 0 (plan_at f.plan x).from) (order_calm p x op told)

  idle_command : (x i : ℕ) (e : Event) → slice_index_or (orders_in (get_or f.streams.items x blank)) i false ≡ false
      → slice_get (commands_of x) i ≡ Some e → doable_now (present_of f) e ≡ false
  idle_command x zero e h is = ap (doable_now (present_of f)) (same_event (Command x Init) e is) ∙ idle_order x Init h
  idle_command x (suc zero) e h is = ap (doable_now (present_of f)) (same_event (Command x Ping) e is) ∙ idle_order x Ping h
  idle_command x (suc (suc zero)) e h is = ap (doable_now (present_of f)) (same_event (Command x Resync) e is) ∙ idle_order x Resync h
  idle_command x (suc (suc (suc i))) e h is = cc

  idle_feed : (b i : ℕ) → is_fed (block_at f.plan b) ≡ false → doable_now (present_of f) (Feed b i) ≡ false
  unfolding doable_now may
  idle_feed b i h =
      let p = present_of f in
      let block = block_at f.plan b in
      fed_none (front_now p) (is_rx block.kind) (list_all (is_clear (front_now p)) block.outs) block.ins i h

  idle_block : (b i : ℕ) (e : Event) → is_fed (block_at f.plan b) ≡ false → slice_get (feeds_of b) i ≡ Some e → doable_now (present_of f) e ≡ false
  idle_block b zero e h is = ap (doable_now (present_of f)) (same_event (Feed b 0) e is) ∙ idle_feed b 0 h
  idle_block b (suc zero) e h is = ap (doable_now (present_of f)) (same_event (Feed b 1) e is) ∙ idle_feed b 1 h
  idle_block b (suc (suc i)) e h is = cc

  -- where their flags aren't set
  enters_idle : IsIdle (present_of f) s 0 s.streams (flag_at (flags_of f.streams.items).sending)
  enters_idle j e there off is =
      let at : 0 + j ≡ j = omega arith in
      ap (doable_now (present_of f)) (same_event (Enter j) e (sym (enter_at s j there) ∙ ap (slice_get (candidates_in s)) (sym at) ∙ is))
      ∙ idle_enter j there (sym (get_or-map is_sending f.streams.items j blank) ∙ off)

  orders_idle : (m : ℕ) → m ≡ first_order s → IsIdle (present_of f) s m (3 * s.streams) (flag_at (flags_of f.streams.items).ordering)
  orders_idle m at j e there off is =
      let many = streams_are in
      let within : j < 3 * length f.streams.items = omega arith in
      idle_command (j / 3) (j % 3) e (sym (order_flag f.streams.items j within) ∙ off)
      (sym (order_at s j there) ∙ ap (λ n. slice_get (candidates_in s) (n + j)) (sym at) ∙ is)

  reports_idle : (m : ℕ) → m ≡ first_report s → IsIdle (present_of f) s m s.streams (flag_at (flags_of f.streams.items).owing)
  reports_idle m at j e there off is =
      ap (doable_now (present_of f)) (same_event (Report j) e (sym (report_at s j there) ∙ ap (λ n. slice_get (candidates_in s) (n + j)) (sym at) ∙ is))
      ∙ idle_report j (sym (get_or-map is_owing f.streams.items j blank) ∙ off)

  feeds_idle : (m : ℕ) → m ≡ first_feed s → IsIdle (present_of f) s m (2 * s.blocks) (λ j. flag_at f.feeding (j / 2))
  feeds_idle m at j e there off is =
      let flag : flag_at f.feeding (j / 2) ≡ is_fed (block_at f.plan (j / 2)) =
      ap (λ (fs : List Bool). flag_at fs (j / 2)) sound.feeding ∙ get_or-map is_fed f.plan.blocks (j / 2) no_block in
      idle_block (j / 2) (j % 2) e (sym flag ∙ off)
      (sym (feed_at s j there) ∙ ap (λ n. slice_get (candidates_in s) (n + j)) (sym at) ∙ is)

  -- what is flagged is there
  pub sending_within : (x : ℕ) → flag_at (flags_of f.streams.items).sending x ≡ true → x < s.streams
  sending_within x h =
      let there = set_within (flags_of f.streams.items).sending x h in
      let flags = length-map f.streams.items is_sending in
      let many = streams_are in
      omega arith

  pub order_within : (x : ℕ) → flag_at (flags_of f.streams.items).ordering x ≡ true → x < 3 * s.streams
  order_within x h =
      let there = set_within (flags_of f.streams.items).ordering x h in
      let flags = orders_count f.streams.items in
      let many = streams_are in
      omega arith

  pub owing_within : (x : ℕ) → flag_at (flags_of f.streams.items).owing x ≡ true → x < s.streams
  owing_within x h =
      let there = set_within (flags_of f.streams.items).owing x h in
      let flags = length-map f.streams.items is_owing in
      let many = streams_are in
      omega arith

  pub feeding_within : (b : ℕ) → flag_at f.feeding b ≡ true → b < s.blocks
  feeding_within b h =
      let there : b < length f.feeding = set_within f.feeding b h in
      let flags : length f.feeding ≡ length f.plan.blocks = ap (λ (fs : List Bool). length fs) sound.feeding ∙ length-map f.plan.blocks is_fed in
      let many = blocks_are in
      omega arith

  -- up to the next Enter, and past the last
  pub enter_next : (k x : ℕ) → IsNext (flag_at (flags_of f.streams.items).sending) k x → IsStill (present_of f) s k x
  enter_next k x next =
      let there = sending_within x next.here in
      still_up_to (present_of f) s 0 s.streams (flag_at (flags_of f.streams.items).sending) enters_idle k x (omega arith) (omega arith)
      (λ j low high. next.none j (omega arith) (omega arith))

  pub enters_past : (k : ℕ) → NoneFrom (flag_at (flags_of f.streams.items).sending) k → IsStill (present_of f) s k (first_order s)
  enters_past k none =
      still_up_to (present_of f) s 0 s.streams (flag_at (flags_of f.streams.items).sending) enters_idle k s.streams (omega arith) (omega arith)
      (λ j low high. none j (omega arith))

  -- so with Commands
  pub order_next : (m k c : ℕ) → m ≡ first_order s → m ≤ k → IsNext (flag_at (flags_of f.streams.items).ordering) (k - m) c
      → IsStill (present_of f) s k (m + c)
  order_next m k c at from next =
      let there = order_within c next.here in
      still_up_to (present_of f) s m (3 * s.streams) (flag_at (flags_of f.streams.items).ordering) (orders_idle m at) k (m + c) from (omega arith)
      (λ j low high. next.none j low (omega arith))

  pub orders_past : (m k : ℕ) → m ≡ first_order s → m ≤ k → NoneFrom (flag_at (flags_of f.streams.items).ordering) (k - m)
      → IsStill (present_of f) s k (first_report s)
  orders_past m k at from none =
      still_up_to (present_of f) s m (3 * s.streams) (flag_at (flags_of f.streams.items).ordering) (orders_idle m at) k (first_report s) from (omega arith)
      (λ j low high. none j low)

  -- with Reports
  pub report_next : (m k x : ℕ) → m ≡ first_report s → m ≤ k → IsNext (flag_at (flags_of f.streams.items).owing) (k - m) x
      → IsStill (present_of f) s k (m + x)
  report_next m k x at from next =
      let there = owing_within x next.here in
      still_up_to (present_of f) s m s.streams (flag_at (flags_of f.streams.items).owing) (reports_idle m at) k (m + x) from (omega arith)
      (λ j low high. next.none j low (omega arith))

  pub reports_past : (m k : ℕ) → m ≡ first_report s → m ≤ k → NoneFrom (flag_at (flags_of f.streams.items).owing) (k - m)
      → IsStill (present_of f) s k (first_feed s)
  reports_past m k at from none =
      still_up_to (present_of f) s m s.streams (flag_at (flags_of f.streams.items).owing) (reports_idle m at) k (first_feed s) from (omega arith)
      (λ j low high. none j low)

  -- and with Feeds, of which the flags are those of blocks
  pub feed_next : (m k b n : ℕ) → m ≡ first_feed s → m ≤ k → IsNext (flag_at f.feeding) ((k - m) / 2) b → n ≡ m + max (k - m) (2 * b)
      → IsStill (present_of f) s k n
  feed_next m k b n at from next is =
      let there = feeding_within b next.here in
      still_up_to (present_of f) s m (2 * s.blocks) (λ j. flag_at f.feeding (j / 2)) (feeds_idle m at) k n from (let low = next.from in omega arith)
      (λ j low high. next.none (j / 2) (omega arith) (omega arith))

  pub feeds_past : (m k : ℕ) → m ≡ first_feed s → m ≤ k → NoneFrom (flag_at f.feeding) ((k - m) / 2) → IsStill (present_of f) s k (first_reply s)
  feeds_past m k at from none =
      still_up_to (present_of f) s m (2 * s.blocks) (λ j. flag_at f.feeding (j / 2)) (feeds_idle m at) k (first_reply s) from (omega arith)
      (λ j low high. none (j / 2) (omega arith))
