-- What producers make is no more than the plan allows, since what was given was sent.
use Rattle.std.proofs.Common.{◌≡◌, ℕ, zero, suc, ◌+◌, ◌*◌, ◌<◌, ◌≤◌, ◌==◌, Bool, true, false, List, [], ◌∷◌, length, take, Option, Some, None, refl, sym, ◌∙◌, ap, subst, arith, mul-le-mul_left, mul_comm, if◌then◌else◌}
use Rattle.std.specs.Option.{option_map_or}
use Rattle.std.proofs.lemmas.List.{length-append, length-map, length-take}
use Rattle.block_library.proofs.Laws.{few_are_given_in_all, length-produced}
use Rattle.block_library.specs.Blocks.{FitsKind, block_of}
use Rattle.block_library.specs.Memory.{lists}
use Rattle.block_library.specs.Producer.{produced}
use Rattle.block_library.specs.Within.{most_given}
use Rattle.block_library.specs.declared.kind.BlockKind.{BlockKind}
use Rattle.block_library.specs.declared.kind.BlockKind.TheVariants.{Tx, Rx, Fifo, Split, Keep, Repeat, Replay, Switch, Sink}
use Rattle.chdr_packets.specs.declared.packet.Packet.{Packet}
use Rattle.stream_laws.specs.Epochs.{EachEpoch, IsEpoch}
use Rattle.stream_laws.specs.Machine.{Core, Cut, Load}
use Rattle.stream_laws.proofs.Laws.{holds_run}
use Rattle.net_machine.specs.declared.plan.BlockPlan.{BlockPlan}
use Rattle.net_machine.specs.declared.plan.StreamPlan.{StreamPlan}
use Rattle.net_machine.specs.Begin.{source_of}
use Rattle.net_machine.specs.Blocks.{fed_to}
use Rattle.net_machine.specs.CanBegin.{bound_through, factor_of, passed_input}
use Rattle.net_machine.specs.Plain.{given_at, is_second, made_for, numbered_from}
use Rattle.net_machine.specs.Plans.{block_at, consumer_of, is_tx, plan_at, producer_of, stream_into}
use Rattle.net_machine.specs.State.{State, stream_at}
use Rattle.net_machine.specs.Streams.{taken_of}
use Rattle.net_streams.specs.Shows.{load_of, terms_of}
use Rattle.net_flows.specs.Flows.{IsSteady}
use Rattle.net_ends.specs.Made.{AreMade, MadeIsBounded}
use Rattle.net_ends.proofs.Chains.{producer-below, up}
use Rattle.net_ends.proofs.Ports.{into-below, into-consumer}

length-numbered : (stream : StreamPlan) (place : ℕ) (ps : List Packet) → length (numbered_from stream place ps) ≡ length ps
length-numbered stream place [] = refl
length-numbered stream place (p ∷ ps) = let rest = length-numbered stream (place + 1) ps in omega (arith, rest)

-- no more was given than was sent
epochs-within : (sent given : List (Load Packet)) (lost : List ℕ) (cuts : List Cut) (here : Cut) → EachEpoch (IsEpoch sent given lost) cuts here → here.given ≤ here.sent
epochs-within sent given lost [] here each = let fits = each.fits in omega (arith, fits)
epochs-within sent given lost (cut ∷ cuts) here each = let fits = each.0.fits in let before = epochs-within sent given lost cuts cut each.1 in omega (arith, fits, before)

given-sent : (w : State) → IsSteady w → (s : ℕ) → s < length w.streams → length (stream_at w s).given ≤ length (stream_at w s).sent
given-sent w steady s there =
    let flow = steady.flows s there in
    let holds = holds_run (terms_of (plan_at w.plan s)) flow.state flow.run in
    let within = epochs-within flow.state.core.sent flow.state.core.given flow.state.core.lost flow.state.core.cuts _ holds.epochs in
    let sent : length flow.state.core.sent ≡ length (stream_at w s).sent = ap (λ (c : Core Packet). length c.sent) flow.shows.core ∙ length-map (stream_at w s).sent load_of in
    let given : length flow.state.core.given ≡ length (stream_at w s).given = ap (λ (c : Core Packet). length c.given) flow.shows.core ∙ length-map (stream_at w s).given load_of in
    least _ _ _ _ (sym given) (sym sent) within
  where
    least : (a b c d : ℕ) → a ≡ b → c ≡ d → b ≤ d → a ≤ c
    least a b c d is same le = omega arith

-- ---- what a block gives, by what it was fed

-- what a block is fed at an input
abbrev fed_at : List Packet → List Packet → ℕ → List Packet
fed_at first second i = if i == 0 then first else second

most-by : (kind : BlockKind) (first second : List Packet) → FitsKind kind → most_given kind (lists first second) ≤ factor_of kind * length (fed_at first second (passed_input kind))
most-by Tx first second fits = omega arith
most-by Rx first second fits = omega arith
most-by Fifo first second fits = omega arith
most-by Split first second fits = omega arith
most-by (Keep n) first second fits = omega arith
most-by (Repeat n) first second fits = let same = mul_comm (length first) n in omega (arith, same)
most-by (Replay n) first second fits = let same = mul_comm (length first) n in omega (arith, same)
most-by (Switch n) first second fits = by_input (n == 0)
  where
    by_input : (b : Bool) → (if b then length first else length second) ≤ 1 * length (if b then first else second)
    by_input true = omega arith
    by_input false = omega arith
most-by Sink first second fits = omega arith

given-few : (block : BlockPlan) (stream : StreamPlan) (first second : List Packet) → is_tx block.kind ≡ false → FitsKind block.kind →
    length (made_for block stream (lists first second)) ≤ factor_of block.kind * length (fed_at first second (passed_input block.kind))
given-few block stream first second no_tx fits =
    let few = few_are_given_in_all block.kind block.item (lists first second) fits in
    let most = most-by block.kind first second fits in
    subst (λ (b : Bool). length (if b then produced (source_of block stream.to) else given_at block stream.from (block_of block.kind block.item (lists first second))) ≤ factor_of block.kind * length (fed_at first second (passed_input block.kind)))
    (sym no_tx) (by_output (is_second block stream.from) few.0 few.1 most)
  where
    by_output : (b : Bool) → length (block_of block.kind block.item (lists first second)).first ≤ most_given block.kind (lists first second) → length (block_of block.kind block.item (lists first second)).second ≤ most_given block.kind (lists first second) →
        most_given block.kind (lists first second) ≤ factor_of block.kind * length (fed_at first second (passed_input block.kind)) →
        length (if b then (block_of block.kind block.item (lists first second)).second else (block_of block.kind block.item (lists first second)).first) ≤ factor_of block.kind * length (fed_at first second (passed_input block.kind))
    by_output true one two most = chain _ _ _ two most
      where
        chain : (a b c : ℕ) → a ≤ b → b ≤ c → a ≤ c
        chain a b c p q = omega arith
    by_output false one two most = chain _ _ _ one most
      where
        chain : (a b c : ℕ) → a ≤ b → b ≤ c → a ≤ c
        chain a b c p q = omega arith

-- a kind passes one of its first two inputs
passed-is : (w : State) (block : BlockPlan) (kind : BlockKind) → FitsKind kind → fed_at (fed_to w block 0) (fed_to w block 1) (passed_input kind) ≡ fed_to w block (passed_input kind)
passed-is w block Tx fits = refl
passed-is w block Rx fits = refl
passed-is w block Fifo fits = refl
passed-is w block Split fits = refl
passed-is w block (Keep n) fits = refl
passed-is w block (Repeat n) fits = refl
passed-is w block (Replay n) fits = refl
passed-is w block (Switch n) fits = by_input n fits
  where
    by_input : (n : ℕ) → n ≤ 1 → fed_at (fed_to w block 0) (fed_to w block 1) n ≡ fed_to w block n
    by_input zero few = refl
    by_input (suc n) few = let none : n ≡ 0 = omega (arith, few) in subst (λ (k : ℕ). fed_at (fed_to w block 0) (fed_to w block 1) (suc k) ≡ fed_to w block (suc k)) (sym none) refl
passed-is w block Sink fits = refl

module _ (w : State) (steady : IsSteady w) (made : AreMade w) where
  there-of : (s : ℕ) → s < length w.plan.streams → s < length w.streams
  there-of s lt = subst (λ (n : ℕ). s < n) (sym steady.as_many) lt

  all-of : ℕ → ℕ
  all-of s = length (stream_at w s).sent + length (stream_at w s).ready

  -- what was taken of a stream was sent
  fed-few : (o : Option ℕ) (k : ℕ) → ((t : ℕ) → o ≡ Some t → t < length w.plan.streams) → ((t : ℕ) → o ≡ Some t → all-of t ≤ bound_through k w.plan t) →
      length (option_map_or (λ (t : ℕ). taken_of (stream_at w t)) o []) ≤ option_map_or (bound_through k w.plan) o 0
  unfolding all-of
  fed-few None k below each = omega arith
  fed-few (Some t) k below each =
      let cut = length-take (stream_at w t).taken (stream_at w t).given in
      let given = given-sent w steady t (there-of t (below t refl)) in
      let bound = each t refl in
      sums (length (take (stream_at w t).taken (stream_at w t).given)) (length (stream_at w t).given) (length (stream_at w t).sent) (length (stream_at w t).ready) (bound_through k w.plan t) (omega (arith, cut)) given bound
    where
      sums : (a g s r b : ℕ) → a ≤ g → g ≤ s → s + r ≤ b → a ≤ b
      sums a g s r b p q e = omega arith

  -- what was sent and is ready was made
  made-length : (s b : ℕ) → s < length w.plan.streams → producer_of w.plan s ≡ Some b → all-of s ≡ length (made_for (block_at w.plan b) (plan_at w.plan s) (lists (fed_to w (block_at w.plan b) 0) (fed_to w (block_at w.plan b) 1)))
  unfolding all-of
  made-length s b lt from =
      let old = stream_at w s in
      let plan = plan_at w.plan s in
      let is = ap (λ (ps : List Packet). length ps) (made s (there-of s lt)
      ∙ ap (λ (o : Option ℕ). option_map_or (λ (c : ℕ). numbered_from plan 0 (made_for (block_at w.plan c) plan (lists (fed_to w (block_at w.plan c) 0) (fed_to w (block_at w.plan c) 1)))) o []) from) in
      let parts = length-append old.sent (numbered_from plan (length old.sent) old.ready) in
      let ready = length-numbered plan (length old.sent) old.ready in
      let all = length-numbered plan 0 (made_for (block_at w.plan b) plan (lists (fed_to w (block_at w.plan b) 0) (fed_to w (block_at w.plan b) 1))) in
      sums _ _ _ _ _ _ is parts ready all
    where
      sums : (whole s r r' n n' : ℕ) → whole ≡ n' → whole ≡ s + r' → r' ≡ r → n' ≡ n → s + r ≡ n
      sums whole s r r' n n' is parts ready all = omega arith

  bounded : (s : ℕ) → s < length w.plan.streams → all-of s ≤ bound_through (length w.plan.blocks) w.plan s
  bounded = up w.plan steady.plan.ports steady.plan.acyclic (λ k s. all-of s ≤ bound_through k w.plan s) step
    where
      step : (k s b : ℕ) → s < length w.plan.streams → producer_of w.plan s ≡ Some b → ((t : ℕ) → t < length w.plan.streams → consumer_of w.plan t ≡ Some b → all-of t ≤ bound_through k w.plan t) →
          all-of s ≤ bound_through (suc k) w.plan s
      step k s b lt from each =
          subst (λ (o : Option ℕ). all-of s ≤ option_map_or (λ (c : ℕ). if is_tx (block_at w.plan c).kind then (block_at w.plan c).packets
          else factor_of (block_at w.plan c).kind * option_map_or (bound_through k w.plan) (stream_into w.plan (block_at w.plan c) (passed_input (block_at w.plan c).kind)) 0) o 0) (sym from)
          (by_kind (is_tx (block_at w.plan b).kind) refl)
        where
          block : BlockPlan
          block = block_at w.plan b

          fed : (i : ℕ) → length (fed_to w (block_at w.plan b) i) ≤ option_map_or (bound_through k w.plan) (stream_into w.plan (block_at w.plan b) i) 0
          fed i = fed-few (stream_into w.plan (block_at w.plan b) i) k (λ t is. into-below w.plan (block_at w.plan b) i t is)
              (λ t is. each t (into-below w.plan (block_at w.plan b) i t is) (into-consumer w.tree w.plan steady.plan b i t (producer-below w.plan s b from) is))

          by_kind : (tx : Bool) → is_tx (block_at w.plan b).kind ≡ tx → all-of s ≤ (if tx then (block_at w.plan b).packets
              else factor_of (block_at w.plan b).kind * option_map_or (bound_through k w.plan) (stream_into w.plan (block_at w.plan b) (passed_input (block_at w.plan b).kind)) 0)
          by_kind true tx =
              let all = made-length s b lt from in
              let tx_made : length (made_for (block_at w.plan b) (plan_at w.plan s) (lists (fed_to w (block_at w.plan b) 0) (fed_to w (block_at w.plan b) 1))) ≡ (block_at w.plan b).packets =
              ap (λ (c : Bool). length (if c then produced (source_of (block_at w.plan b) (plan_at w.plan s).to) else given_at (block_at w.plan b) (plan_at w.plan s).from (block_of (block_at w.plan b).kind (block_at w.plan b).item (lists (fed_to w (block_at w.plan b) 0) (fed_to w (block_at w.plan b) 1))))) tx
              ∙ length-produced (source_of (block_at w.plan b) (plan_at w.plan s).to) in
              least (all-of s) _ (block_at w.plan b).packets all tx_made
            where
              least : (a n p : ℕ) → a ≡ n → n ≡ p → a ≤ p
              least a n p is same = omega arith
          by_kind false no_tx =
              let fits = (steady.plan.fits.blocks b (producer-below w.plan s b from)).kind in
              let all = made-length s b lt from in
              let few = given-few (block_at w.plan b) (plan_at w.plan s) (fed_to w (block_at w.plan b) 0) (fed_to w (block_at w.plan b) 1) no_tx fits in
              let same = ap (λ (ps : List Packet). length ps) (passed-is w (block_at w.plan b) (block_at w.plan b).kind fits) in
              chain (all-of s) _ (factor_of (block_at w.plan b).kind) _ _ _ all few same (fed (passed_input (block_at w.plan b).kind))
            where
              chain : (a n f l m bound : ℕ) → a ≡ n → n ≤ f * l → l ≡ m → m ≤ bound → a ≤ f * bound
              chain a n f l m bound is few same le =
                  let times : f * l ≡ f * m = ap (λ (x : ℕ). f * x) same in let most : f * m ≤ f * bound = mul-le-mul_left f le in omega (arith, few, times, most)

  pub are-bounded : (s : ℕ) → s < length w.streams → length (stream_at w s).sent + length (stream_at w s).ready ≤ bound_through (length w.plan.blocks) w.plan s
  unfolding all-of
  are-bounded s there = bounded s (subst (λ (n : ℕ). s < n) steady.as_many there)

pub made-bounded : MadeIsBounded
made-bounded w steady made s there = are-bounded w steady made s there
