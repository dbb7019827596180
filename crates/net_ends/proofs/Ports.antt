-- The streams at the ports of a block of a sound plan.
use Rattle.std.proofs.Common.{◌≡◌, ℕ, suc, ◌<◌, Bool, true, false, List, [], ◌∷◌, length, Option, Some, None, IsSome, refl, sym, ◌∙◌, ap, subst, eqb-true, slice_get, ◌⊎◌, inl, inr}
use Rattle.std.specs.List.{list_all}
use Rattle.std.specs.Option.{option_and_then}
use Rattle.std.specs.Prelude.{◌==◌}
use Rattle.std.proofs.lemmas.Bool.{and_cases, or_cases, eqb-true}
use Rattle.std.proofs.lemmas.List.Quantifiers.{position-Some}
use Rattle.chdr_words.specs.declared.epid.Epid.{Epid}
use Rattle.net_topology.specs.declared.plan.Plan.{Plan}
use Rattle.net_machine.specs.declared.plan.BlockPlan.{BlockPlan}
use Rattle.net_machine.specs.declared.plan.RunPlan.{RunPlan}
use Rattle.net_machine.specs.Plans.{block_at, consumer_of, is_among, is_from, is_to, no_block, no_stream, plan_at, producer_of, stream_from, stream_into, stream_to}
use Rattle.net_flows.specs.Lasting.{IsSound}

pub never : {A : Type 0} → false ≡ true → A
never h = cc

pub some-is : {A : Type 0} (o : Option A) → IsSome o → (x : A) × (o ≡ Some x)
some-is None h = never h
some-is (Some x) h = (x, refl)

-- an item that fails a test of all
pub record IsFailing {A : Type 0} (test : A → Bool) (xs : List A) : Type 0 where
  pub place : ℕ
  pub item : A
  pub at : slice_get xs place ≡ Some item
  pub fails : test item ≡ false

pub all-fails : {A : Type 0} (test : A → Bool) (xs : List A) → list_all test xs ≡ false → IsFailing test xs
all-fails test [] h = never (sym h)
all-fails test (x ∷ xs) h = by_place (and_cases (test x) (list_all test xs) h) (all-fails test xs)
  where
    by_place : (test x ≡ false) ⊎ (list_all test xs ≡ false) → (list_all test xs ≡ false → IsFailing test xs) → IsFailing test (x ∷ xs)
    by_place (inl fails) rest = record { place = 0; item = x; at = refl; fails = fails }
    by_place (inr further) rest = let found = rest further in record { place = suc found.place; item = found.item; at = found.at; fails = found.fails }

same-epid : (a b : Epid) → (a.0 == b.0) ≡ true → a ≡ b
same-epid a b is = ap (λ (n : ℕ). record { 0 = n }) (eqb-true a.0 b.0 is)

-- an EPID among these stands at one of their places
pub among-at : (epid : Epid) (es : List Epid) → is_among epid es ≡ true → (i : ℕ) × (slice_get es i ≡ Some epid)
among-at epid [] h = never h
among-at epid (e ∷ es) h = by_place (or_cases (e.0 == epid.0) (is_among epid es) h) (among-at epid es)
  where
    by_place : ((e.0 == epid.0) ≡ true) ⊎ (is_among epid es ≡ true) → (is_among epid es ≡ true → (i : ℕ) × (slice_get es i ≡ Some epid)) → (i : ℕ) × (slice_get (e ∷ es) i ≡ Some epid)
    by_place (inl same) rest = (0, ap Some (same-epid e epid same))
    by_place (inr further) rest = let found = rest further in (suc found.0, found.1)

-- the stream that ends at an input of block b
pub record EndsAt (plan : RunPlan) (b : ℕ) (epid : Epid) : Type 0 where
  pub stream : ℕ
  pub there : stream < length plan.streams
  pub found : stream_to plan epid ≡ Some stream
  pub consumer : consumer_of plan stream ≡ Some b

pub ends-at : (tree : Plan) (plan : RunPlan) → IsSound tree plan → (b i : ℕ) (epid : Epid) → b < length plan.blocks → slice_get (block_at plan b).ins i ≡ Some epid → EndsAt plan b epid
ends-at tree plan sound b i epid lt at =
    let s = some-is (stream_to plan epid) ((sound.no_open_ports b lt).ins i epid at) in
    let found = position-Some (is_to epid) plan.streams s.0 no_stream s.1 in
    let to : (plan_at plan s.0).to ≡ epid = same-epid (plan_at plan s.0).to epid found.1 in
    let c = some-is (consumer_of plan s.0) (sound.ports s.0 found.0).1 in
    let block = position-Some (λ (block : BlockPlan). is_among (plan_at plan s.0).to block.ins) plan.blocks c.0 no_block c.1 in
    let place = among-at (plan_at plan s.0).to (block_at plan c.0).ins block.1 in
    let same : c.0 ≡ b = (sound.endpoints_free.0 c.0 b place.0 i epid (place.1 ∙ ap Some to) at).0 in
    record { stream = s.0; there = found.0; found = s.1; consumer = c.1 ∙ ap Some same }

-- the stream that begins at an output of block b
pub record BeginsAt (plan : RunPlan) (b : ℕ) (epid : Epid) : Type 0 where
  pub stream : ℕ
  pub there : stream < length plan.streams
  pub found : stream_from plan epid ≡ Some stream
  pub producer : producer_of plan stream ≡ Some b

pub begins-at : (tree : Plan) (plan : RunPlan) → IsSound tree plan → (b i : ℕ) (epid : Epid) → b < length plan.blocks → slice_get (block_at plan b).outs i ≡ Some epid → BeginsAt plan b epid
begins-at tree plan sound b i epid lt at =
    let s = some-is (stream_from plan epid) ((sound.no_open_ports b lt).outs i epid at) in
    let found = position-Some (is_from epid) plan.streams s.0 no_stream s.1 in
    let from : (plan_at plan s.0).from ≡ epid = same-epid (plan_at plan s.0).from epid found.1 in
    let c = some-is (producer_of plan s.0) (sound.ports s.0 found.0).0 in
    let block = position-Some (λ (block : BlockPlan). is_among (plan_at plan s.0).from block.outs) plan.blocks c.0 no_block c.1 in
    let place = among-at (plan_at plan s.0).from (block_at plan c.0).outs block.1 in
    let same : c.0 ≡ b = (sound.endpoints_free.1 c.0 b place.0 i epid (place.1 ∙ ap Some from) at).0 in
    record { stream = s.0; there = found.0; found = s.1; producer = c.1 ∙ ap Some same }

-- the stream into an input is one of the plan's, and ends at its block
pub into-below : (plan : RunPlan) (block : BlockPlan) (i t : ℕ) → stream_into plan block i ≡ Some t → t < length plan.streams
into-below plan block i t is = by_port (slice_get block.ins i) is
  where
    by_port : (o : Option Epid) → option_and_then (stream_to plan) o ≡ Some t → t < length plan.streams
    by_port None h = let z : ◌≡◌ {A = Option ℕ} None (Some t) = h in cc
    by_port (Some epid) h = (position-Some (is_to epid) plan.streams t no_stream h).0

pub into-consumer : (tree : Plan) (plan : RunPlan) → IsSound tree plan → (b i t : ℕ) → b < length plan.blocks → stream_into plan (block_at plan b) i ≡ Some t → consumer_of plan t ≡ Some b
into-consumer tree plan sound b i t lt is = by_port (slice_get (block_at plan b).ins i) refl is
  where
    same : (x y : ℕ) → ◌≡◌ {A = Option ℕ} (Some x) (Some y) → x ≡ y
    same x y e = cc

    by_port : (o : Option Epid) → slice_get (block_at plan b).ins i ≡ o → option_and_then (stream_to plan) o ≡ Some t → consumer_of plan t ≡ Some b
    by_port None at h = let z : ◌≡◌ {A = Option ℕ} None (Some t) = h in cc
    by_port (Some epid) at h =
        let ends = ends-at tree plan sound b i epid lt at in
        subst (λ (k : ℕ). consumer_of plan k ≡ Some b) (same ends.stream t (sym ends.found ∙ h)) ends.consumer
