-- At rest each stream is drained, or has its cause in a loss: of its own, or of a stream that is joined to it.
use Rattle.std.proofs.Common.{◌≡◌, ℕ, zero, suc, ◌<◌, ◌≤◌, ◌==◌, ◌⊎◌, inl, inr, Bool, true, false, IsTrue, List, [], ◌∷◌, length, Option, Some, refl, sym, ◌∙◌, ap, subst, arith, slice_get, eq-eqb, if◌then◌else◌}
use Rattle.std.specs.Prelude.{◌&&◌, not, nat_lt, nat_le}
use Rattle.std.specs.List.{list_all}
use Rattle.std.specs.Option.{option_and_then, option_map_or}
use Rattle.std.proofs.lemmas.Bool.{and_from, both_ways, cases_Bool, cases_eq, cases_lt, false_from_ne_true, le-leb, lt-ltb}
use Rattle.std.proofs.lemmas.List.{length-map, length-take}
use Rattle.std.proofs.lemmas.List.Quantifiers.{position-Some}
use Rattle.chdr_packets.specs.declared.packet.Packet.{Packet}
use Rattle.chdr_words.specs.declared.epid.Epid.{Epid}
use Rattle.stream_endpoint.specs.Counts.{is_none}
use Rattle.stream_endpoint.specs.Sender.{is_covered, is_running}
use Rattle.stream_laws.specs.Ends.{IsDrained, IsHalted, Waits}
use Rattle.stream_laws.specs.Machine.{Core, Load}
use Rattle.stream_laws.proofs.Laws.{ends_well, taken_of_given}
use Rattle.net_machine.specs.declared.event.Event.TheVariants as event
use Rattle.net_machine.specs.declared.plan.BlockPlan.{BlockPlan}
use Rattle.net_machine.specs.declared.plan.StreamPlan.{StreamPlan}
use Rattle.net_machine.specs.Blocks.{drained_by, has_packet, is_clear, is_closed, is_drained, is_finished}
use Rattle.net_machine.specs.Conditions.{can_see, enabled, ends_at_rx, has_untaken, may}
use Rattle.net_machine.specs.Front.{StreamFront, front, front_at, stream_front}
use Rattle.net_machine.specs.Moves.{IsStill}
use Rattle.net_machine.specs.Plain.{numbered_from}
use Rattle.net_machine.specs.Plans.{block_at, consumer_of, is_among, is_rx, is_tx, no_block, plan_at, producer_of, stream_into, stream_to}
use Rattle.net_machine.specs.Promises.{itself, through}
use Rattle.net_machine.specs.State.{State, stream_at}
use Rattle.net_machine.proofs.Laws.{fronts}
use Rattle.net_ways.specs.Standing.{HasWays, HaveWays}
use Rattle.net_streams.specs.Shows.{load_of, loads_of, terms_of}
use Rattle.net_flows.specs.Flows.{IsFlow, IsSteady}
use Rattle.net_flows.proofs.Laws.{further_is_finished}
use Rattle.net_ends.specs.Rest.{AllAreDrained, EndsHaveCauses, HasCause}
use Rattle.net_ends.proofs.Chains.{consumer-below, down, producer-below, up}
use Rattle.net_ends.proofs.Ports.{all-fails, among-at, begins-at, ends-at, never, some-is}
use Rattle.net_ends.proofs.Stillness.{no-enter, no-order, quiet-shown}

-- ---- what a stream is, all of which is taken

-- a stream at rest of which all is taken: nothing is ready, and it runs without anything outstanding; or it was halted
data Stands (w : State) (s : ℕ) : Type 0 where
  halted : HasCause w s → Stands w s
  waits : (stream_at w s).ready ≡ [] → is_running (stream_at w s).sender.state ≡ true → is_closed (front w) s ≡ false → Stands w s
  drained : (stream_at w s).ready ≡ [] → is_running (stream_at w s).sender.state ≡ true → is_none (stream_at w s).sender.outstanding ≡ true → Stands w s

none-ready : (plan : StreamPlan) (place : ℕ) (ready : List Packet) → loads_of (numbered_from plan place ready) ≡ [] → ready ≡ []
none-ready plan place [] is = refl
none-ready plan place (p ∷ ps) is = absurd (no _ _ is)
  where
    no : (l : Load Packet) (ls : List (Load Packet)) → ◌≡◌ {A = List (Load Packet)} (l ∷ ls) [] → ⊥
    no l ls h = cc

module _ (w : State) (steady : IsSteady w) (ways : HaveWays w) (still : IsStill w) where
  way : (s : ℕ) → s < length w.streams → HasWays w s
  way s there = ways.each s (subst (λ (n : ℕ). s < n) ways.as_many there)

  stands : (s : ℕ) → s < length w.streams → (stream_at w s).taken ≡ length (stream_at w s).given → Stands w s
  stands s there taken =
      let plan = plan_at w.plan s in
      let closed = is_closed (front w) s in
      let flow = steady.flows s there in
      let st = flow.state in
      let shows = flow.shows in
      let quiet = quiet-shown w s closed st steady.queues (way s there) still taken shows in
      by_end (ends_well (terms_of plan) st flow.run quiet (no-enter w s closed st steady.queues (way s there) still shows) (no-order w s st steady.queues (way s there) still taken shows))
    where
      flow-of : IsFlow w s
      flow-of = steady.flows s there

      by_end : IsDrained flow-of.state ⊎ (IsHalted (terms_of (plan_at w.plan s)) flow-of.state ⊎ Waits flow-of.state) → Stands w s
      by_end (inl d) = drained
          (none-ready (plan_at w.plan s) (length (stream_at w s).sent) (stream_at w s).ready (sym (ap (λ (c : Core Packet). c.ready) flow-of.shows.core) ∙ d.none_ready))
          (ap is_running (sym (ap (λ (c : Core Packet). c.sender.state) flow-of.shows.core) ∙ d.running))
          (sym (ap (λ (c : Core Packet). is_covered c.sender) flow-of.shows.core) ∙ d.covered)
      by_end (inr (inl h)) = halted (record {
        stream = s;
        there = there;
        joined = itself;
        off = h.off;
        some_lost = subst (λ (lost : List ℕ). 1 ≤ length lost) (ap (λ (c : Core Packet). c.lost) flow-of.shows.core) h.some_lost;
      })
      by_end (inr (inr v)) = waits
          (none-ready (plan_at w.plan s) (length (stream_at w s).sent) (stream_at w s).ready (sym (ap (λ (c : Core Packet). c.ready) flow-of.shows.core) ∙ v.none_ready))
          (ap is_running (sym (ap (λ (c : Core Packet). c.sender.state) flow-of.shows.core) ∙ v.running))
          (sym (ap (λ (c : Core Packet). c.closed) flow-of.shows.core) ∙ v.goes_on)

  taken-within : (s : ℕ) → s < length w.streams → (stream_at w s).taken ≤ length (stream_at w s).given
  taken-within s there =
      let flow = steady.flows s there in
      let all = (taken_of_given (terms_of (plan_at w.plan s)) flow.state flow.run).0 in
      let cut = length-take flow.state.core.taken flow.state.core.given in
      let taken : flow.state.core.taken ≡ (stream_at w s).taken = ap (λ (c : Core Packet). c.taken) flow.shows.core in
      let given : length flow.state.core.given ≡ length (stream_at w s).given = ap (λ (c : Core Packet). length c.given) flow.shows.core ∙ length-map (stream_at w s).given load_of in
      omega (arith, all, cut, taken, given)

  -- ---- a stream with packets that aren't taken

  -- a stream that begins at block b has something ready
  record IsBlocked (b : ℕ) : Type 0 where
    stream : ℕ
    there : stream < length w.streams
    producer : producer_of w.plan stream ≡ Some b
    ready : has_packet (stream_at w stream).ready ≡ true

  -- an output of block b isn't clear
  blocked : (b i : ℕ) (epid : Epid) → b < length w.plan.blocks → slice_get (block_at w.plan b).outs i ≡ Some epid → is_clear (front w) epid ≡ false → IsBlocked b
  blocked b i epid lt at fails =
      let begins = begins-at w.tree w.plan steady.plan b i epid lt at in
      let clear : not (has_packet (front_at (front w) begins.stream).ready) ≡ false =
      subst (λ (o : Option ℕ). option_map_or (λ (s : ℕ). not (has_packet (front_at (front w) s).ready)) o false ≡ false) begins.found fails in
      record {
        stream = begins.stream;
        there = subst (λ (n : ℕ). begins.stream < n) (sym steady.as_many) begins.there;
        producer = begins.producer;
        ready = subst (λ (t : StreamFront). has_packet t.ready ≡ true) (fronts.stream w begins.stream) (was (has_packet (front_at (front w) begins.stream).ready) clear);
      }
    where
      was : (b : Bool) → not b ≡ false → b ≡ true
      was true h = refl
      was false h = never (sym h)

  -- the consumer of a stream with packets that aren't taken waits for an output
  held-up : (s b : ℕ) → s < length w.streams → consumer_of w.plan s ≡ Some b → (stream_at w s).taken < length (stream_at w s).given → IsBlocked b
  unfolding may
  held-up s b there to less = by_kind (is_rx (block_at w.plan b).kind) refl
    where
      untaken : has_untaken (front w) s ≡ true
      untaken = subst (λ (t : StreamFront). nat_lt t.taken t.given ≡ true) (sym (fronts.stream w s)) (lt-ltb (stream_at w s).taken (length (stream_at w s).given) less)

      seen : can_see (front_at (front w) s) (length (stream_at w s).given) ≡ true
      seen = subst (λ (t : StreamFront). can_see t (length (stream_at w s).given) ≡ true) (sym (fronts.stream w s))
          (and_from (nat_lt (stream_at w s).taken (length (stream_at w s).given)) (nat_le (length (stream_at w s).given) (length (stream_at w s).given))
          (lt-ltb (stream_at w s).taken (length (stream_at w s).given) less) (le-leb (length (stream_at w s).given) (length (stream_at w s).given) (omega arith)))

      by_kind : (rx : Bool) → is_rx (block_at w.plan b).kind ≡ rx → IsBlocked b
      by_kind true rx =
          let ends : ends_at_rx w.plan s ≡ true = ap (λ (o : Option ℕ). option_map_or (λ (c : ℕ). is_rx (block_at w.plan c).kind) o false) to ∙ rx in
          absurd (both_ways (enabled w (event.Seen s (length (stream_at w s).given))) (still (event.Seen s (length (stream_at w s).given)))
          (and_from (ends_at_rx w.plan s) (can_see (front_at (front w) s) (length (stream_at w s).given)) ends seen))
      by_kind false no_rx =
          let block = position-Some (λ (block : BlockPlan). is_among (plan_at w.plan s).to block.ins) w.plan.blocks b no_block to in
          let place = among-at (plan_at w.plan s).to (block_at w.plan b).ins block.1 in
          let into : stream_into w.plan (block_at w.plan b) place.0 ≡ Some s = ap (λ (o : Option Epid). option_and_then (stream_to w.plan) o) place.1 ∙ (way s there).to in
          let input : option_map_or (has_untaken (front w)) (stream_into w.plan (block_at w.plan b) place.0) false ≡ true =
          ap (λ (o : Option ℕ). option_map_or (has_untaken (front w)) o false) into ∙ untaken in
          by_outs (cases_Bool (list_all (is_clear (front w)) (block_at w.plan b).outs)) place.0 input
        where
          by_outs : (list_all (is_clear (front w)) (block_at w.plan b).outs ≡ true) ⊎ (list_all (is_clear (front w)) (block_at w.plan b).outs ≡ false) →
              (i : ℕ) → option_map_or (has_untaken (front w)) (stream_into w.plan (block_at w.plan b) i) false ≡ true → IsBlocked b
          by_outs (inl clear) i input =
              absurd (both_ways (enabled w (event.Feed b i)) (still (event.Feed b i))
              (and_from (not (is_rx (block_at w.plan b).kind)) (option_map_or (has_untaken (front w)) (stream_into w.plan (block_at w.plan b) i) false && list_all (is_clear (front w)) (block_at w.plan b).outs)
              (ap not no_rx) (and_from (option_map_or (has_untaken (front w)) (stream_into w.plan (block_at w.plan b) i) false) (list_all (is_clear (front w)) (block_at w.plan b).outs) input clear)))
          by_outs (inr full) i input =
              let out = all-fails (is_clear (front w)) (block_at w.plan b).outs full in
              blocked b out.place out.item (consumer-below w.plan s b to) out.at out.fails

  -- ---- causes

  -- a cause of a stream that meets stream s at a block is one of s too
  cause-by : (s t b : ℕ) → (producer_of w.plan s ≡ Some b) ⊎ (consumer_of w.plan s ≡ Some b) → (producer_of w.plan t ≡ Some b) ⊎ (consumer_of w.plan t ≡ Some b) → HasCause w t → HasCause w s
  cause-by s t b one other cause = record { stream = cause.stream; there = cause.there; joined = through t b one other cause.joined; off = cause.off; some_lost = cause.some_lost }

  planned : (s : ℕ) → s < length w.streams → s < length w.plan.streams
  planned s there = subst (λ (n : ℕ). s < n) steady.as_many there

  there-of : (s : ℕ) → s < length w.plan.streams → s < length w.streams
  there-of s lt = subst (λ (n : ℕ). s < n) (sym steady.as_many) lt

  -- a stream with something ready has one
  ready-cause : (s : ℕ) → s < length w.plan.streams → has_packet (stream_at w s).ready ≡ true → HasCause w s
  ready-cause = down w.plan steady.plan.ports steady.plan.acyclic (λ s. has_packet (stream_at w s).ready ≡ true → HasCause w s)
      (λ s b lt to further ready. step s b lt to further ready (cases_lt (stream_at w s).taken (length (stream_at w s).given)))
    where
      by_stand : (s : ℕ) → has_packet (stream_at w s).ready ≡ true → Stands w s → HasCause w s
      by_stand s ready (halted cause) = cause
      by_stand s ready (waits none running open_) = never (sym (ap has_packet none) ∙ ready)
      by_stand s ready (drained none running covered) = never (sym (ap has_packet none) ∙ ready)

      step : (s b : ℕ) → s < length w.plan.streams → consumer_of w.plan s ≡ Some b →
          ((t : ℕ) → t < length w.plan.streams → producer_of w.plan t ≡ Some b → has_packet (stream_at w t).ready ≡ true → HasCause w t) →
          has_packet (stream_at w s).ready ≡ true → ((stream_at w s).taken < length (stream_at w s).given) ⊎ (length (stream_at w s).given ≤ (stream_at w s).taken) → HasCause w s
      step s b lt to further ready (inl less) =
          let held = held-up s b (there-of s lt) to less in
          cause-by s held.stream b (inr to) (inl held.producer) (further held.stream (planned held.stream held.there) held.producer held.ready)
      step s b lt to further ready (inr all) =
          by_stand s ready (stands s (there-of s lt) (let within = taken-within s (there-of s lt) in omega (arith, all, within)))

  -- ---- a stream that isn't drained

  finished-upto : (n k b : ℕ) → k ≤ n → is_finished k (front w) b ≡ true → is_finished n (front w) b ≡ true
  finished-upto zero k b le is = let same : k ≡ 0 = omega arith in subst (λ (m : ℕ). is_finished m (front w) b ≡ true) same is
  finished-upto (suc n) k b le is = by_place (cases_eq k (suc n)) (λ less. finished-upto n k b less is)
    where
      by_place : (k ≡ suc n) ⊎ (k ≡ suc n → ⊥) → (k ≤ n → is_finished n (front w) b ≡ true) → is_finished (suc n) (front w) b ≡ true
      by_place (inl same) rest = subst (λ (m : ℕ). is_finished m (front w) b ≡ true) same is
      by_place (inr other) rest = further_is_finished n (front w) b (rest (omega arith))

  -- what a stream asks of its producer, through up to k blocks, to be drained
  test-of : ℕ → ℕ → Bool
  test-of k s = drained_by (option_map_or (is_finished k (front w)) (producer_of w.plan s) false) (front_at (front w) s)

  -- a producer that isn't finished has a cause
  unfinished-cause : (k s b : ℕ) → s < length w.plan.streams → producer_of w.plan s ≡ Some b →
      ((t : ℕ) → t < length w.plan.streams → consumer_of w.plan t ≡ Some b → test-of k t ≡ false → HasCause w t) → is_finished (suc k) (front w) b ≡ false → HasCause w s
  unfolding test-of
  unfinished-cause k s b lt from further open_ = by_kind (is_tx (block_at w.plan b).kind) refl
    where
      test : Epid → Bool
      test epid = option_map_or (λ (t : ℕ). test-of k t) (stream_to w.plan epid) false

      blocked-cause : IsBlocked b → HasCause w s
      blocked-cause held = cause-by s held.stream b (inl from) (inl held.producer) (ready-cause held.stream (planned held.stream held.there) held.ready)

      by_kind : (tx : Bool) → is_tx (block_at w.plan b).kind ≡ tx → HasCause w s
      by_kind true tx =
          let outs : list_all (is_clear (front w)) (block_at w.plan b).outs ≡ false =
          subst (λ (c : Bool). (if c then list_all (is_clear (front w)) (block_at w.plan b).outs else list_all test (block_at w.plan b).ins) ≡ false) tx open_ in
          let out = all-fails (is_clear (front w)) (block_at w.plan b).outs outs in
          blocked-cause (blocked b out.place out.item (producer-below w.plan s b from) out.at out.fails)
      by_kind false no_tx =
          let ins : list_all test (block_at w.plan b).ins ≡ false =
          subst (λ (c : Bool). (if c then list_all (is_clear (front w)) (block_at w.plan b).outs else list_all test (block_at w.plan b).ins) ≡ false) no_tx open_ in
          let input = all-fails test (block_at w.plan b).ins ins in
          let ends = ends-at w.tree w.plan steady.plan b input.place input.item (producer-below w.plan s b from) input.at in
          let fails : test-of k ends.stream ≡ false = subst (λ (o : Option ℕ). option_map_or (λ (t : ℕ). test-of k t) o false ≡ false) ends.found input.fails in
          cause-by s ends.stream b (inl from) (inr ends.consumer) (further ends.stream ends.there ends.consumer fails)

  -- all but the producer's end is there
  drained-but : (finished : Bool) (t : StreamFront) → t.ready ≡ [] → is_running t.state ≡ true → is_none t.outstanding ≡ true → t.taken ≡ t.given → drained_by finished t ≡ false → finished ≡ false
  drained-but false t none running covered taken fails = refl
  drained-but true t none running covered taken fails =
      absurd (both_ways (drained_by true t) fails (and_from (not (has_packet t.ready)) (is_running t.state && (is_none t.outstanding && (t.taken == t.given))) (ap (λ (ps : List Packet). not (has_packet ps)) none)
      (and_from (is_running t.state) (is_none t.outstanding && (t.taken == t.given)) running (and_from (is_none t.outstanding) (t.taken == t.given) covered (eq-eqb t.taken t.given taken)))))

  end-cause : (s : ℕ) → s < length w.plan.streams → length w.plan.blocks ≤ length w.plan.blocks → test-of (length w.plan.blocks) s ≡ false → HasCause w s
  unfolding test-of
  end-cause = up w.plan steady.plan.ports steady.plan.acyclic (λ k s. k ≤ length w.plan.blocks → test-of k s ≡ false → HasCause w s)
      (λ k s b lt from further le fails. step k s b lt from (λ t there at. further t there at (omega (arith, le))) le fails (cases_lt (stream_at w s).taken (length (stream_at w s).given)))
    where
      step : (k s b : ℕ) → s < length w.plan.streams → producer_of w.plan s ≡ Some b →
          ((t : ℕ) → t < length w.plan.streams → consumer_of w.plan t ≡ Some b → test-of k t ≡ false → HasCause w t) → suc k ≤ length w.plan.blocks → test-of (suc k) s ≡ false →
          ((stream_at w s).taken < length (stream_at w s).given) ⊎ (length (stream_at w s).given ≤ (stream_at w s).taken) → HasCause w s
      step k s b lt from further le fails (inl less) =
          let c = some-is (consumer_of w.plan s) (steady.plan.ports s lt).1 in
          let held = held-up s c.0 (there-of s lt) c.1 less in
          cause-by s held.stream c.0 (inr c.1) (inl held.producer) (ready-cause held.stream (planned held.stream held.there) held.ready)
      step k s b lt from further le fails (inr all) = by_stand (stands s (there-of s lt) taken)
        where
          taken : (stream_at w s).taken ≡ length (stream_at w s).given
          taken = let within = taken-within s (there-of s lt) in omega (arith, all, within)

          open_ : drained_by (is_finished (suc k) (front w) b) (stream_front (stream_at w s)) ≡ false
          open_ = subst (λ (t : StreamFront). drained_by (is_finished (suc k) (front w) b) t ≡ false) (fronts.stream w s)
              (subst (λ (o : Option ℕ). drained_by (option_map_or (is_finished (suc k) (front w)) o false) (front_at (front w) s) ≡ false) from fails)

          by_stand : Stands w s → HasCause w s
          by_stand (halted cause) = cause
          by_stand (waits none running goes_on) =
              let unfinished : is_finished (length w.plan.blocks) (front w) b ≡ false = subst (λ (o : Option ℕ). option_map_or (is_finished (length w.plan.blocks) (front w)) o false ≡ false) from goes_on in
              unfinished-cause k s b lt from further
              (false_from_ne_true (is_finished (suc k) (front w) b) (λ done. both_ways (is_finished (length w.plan.blocks) (front w) b) unfinished (finished-upto (length w.plan.blocks) (suc k) b le done)))
          by_stand (drained none running covered) =
              unfinished-cause k s b lt from further (drained-but (is_finished (suc k) (front w) b) (stream_front (stream_at w s)) none running covered taken open_)

  end-has : (s : ℕ) → s < length w.streams → is_drained (front w) s ≡ false → HasCause w s
  unfolding test-of
  end-has s there fails = end-cause s (planned s there) (omega arith) fails

pub ends-have_causes : EndsHaveCauses
ends-have_causes w steady ways still s there fails = end-has w steady ways still s there fails

pub all-drained : AllAreDrained
all-drained w steady ways still none s there = by_end (cases_Bool (is_drained (front w) s))
  where
    no_cause : HasCause w s → ⊥
    no_cause cause = let some = cause.some_lost in let empty = ap (λ (lost : List ℕ). length lost) (none cause.stream cause.there) in omega (arith, some, empty)

    by_end : (is_drained (front w) s ≡ true) ⊎ (is_drained (front w) s ≡ false) → IsTrue (is_drained (front w) s)
    by_end (inl is) = is
    by_end (inr fails) = absurd (no_cause (ends-have_causes w steady ways still s there fails))
