-- Which streams begin and end at which blocks of a plan that can run.
use Rattle.std.proofs.Common.{◌≡◌, ℕ, ◌≤◌, ◌<◌, ◌⊎◌, inl, inr, Bool, true, false, IsTrue, List, [], ◌∷◌, length, refl, sym, ◌∙◌, ap, subst, zero, suc, if◌then◌else◌}
use Rattle.std.specs.Prelude.{Option, Some, None, IsSome, slice_get, ◌==◌, ◌||◌}
use Rattle.std.specs.List.{list_any}
use Rattle.std.specs.Option.{option_and_then, option_map_or}
use Rattle.std.proofs.lemmas.Bool.{cases_lt, eqb-true, false≢true}
use Rattle.std.proofs.lemmas.List.{get_or_past}
use Rattle.std.proofs.lemmas.List.Quantifiers.{position-Some}
use Rattle.std.proofs.lemmas.Option.{none-some, option_and_then_some, slice_get_within}
use Rattle.block_library.specs.declared.kind.BlockKind.{BlockKind}
use Rattle.block_library.specs.declared.kind.BlockKind.TheVariants.{Tx, Rx, Fifo, Split, Keep, Repeat, Replay, Switch, Sink}
use Rattle.block_library.specs.Blocks.{FitsKind, inputs, outputs}
use Rattle.chdr_words.specs.declared.epid.Epid.{Epid}
use Rattle.net_topology.specs.Tree.{IsTree, epid_of as node_epid, node_with}
use Rattle.net_topology.specs.declared.plan.NodePlan.TheVariants.{Endpoint}
use Rattle.net_topology.specs.declared.plan.Plan.{Plan}
use Rattle.net_topology.proofs.Laws.{epids_name_nodes}
use Rattle.net_machine.specs.declared.plan.BlockPlan.{BlockPlan}
use Rattle.net_machine.specs.declared.plan.RunPlan.{RunPlan}
use Rattle.net_machine.specs.CanBegin.{from_of, input_at, output_at, stands_at, to_of}
use Rattle.net_machine.specs.Conditions.{ends_at_rx}
use Rattle.net_machine.specs.Nodes.{is_endpoint, is_host, planned as node_planned}
use Rattle.net_machine.specs.Plans.{block_at, block_in, block_out, consumer_of, is_among, is_from, is_rx, is_to, no_block, no_stream, plan_at, producer_of, stream_from, stream_into, stream_out_of, stream_to, is_tx}
use Rattle.net_flows.specs.Lasting.{IsSound}
use Rattle.net_present.specs.Fits.{ArePlanned}

abbrev epid_of : ℕ → Epid
epid_of n = record { 0 = n }

same-epid : (a b : Epid) → (a.0 == b.0) ≡ true → a ≡ b
same-epid a b same = ap epid_of (eqb-true a.0 b.0 same)

-- an EPID of a list stands at a place of it
among-at : (epid : Epid) (epids : List Epid) → is_among epid epids ≡ true → (i : ℕ) × (slice_get epids i ≡ Some epid)
among-at epid [] is = absurd (false≢true is)
among-at epid (e ∷ epids) is = by_first (e.0 == epid.0) refl (λ rest. among-at epid epids rest)
  where
    by_first : (b : Bool) → (e.0 == epid.0) ≡ b → (is_among epid epids ≡ true → (i : ℕ) × (slice_get epids i ≡ Some epid)) → (i : ℕ) × (slice_get (e ∷ epids) i ≡ Some epid)
    by_first true same later = (zero, ap (λ (x : Epid). Some x) (same-epid e epid same))
    by_first false other later =
        let rest = later (ap (λ b. b || list_any (λ (x : Epid). x.0 == epid.0) epids) (sym other) ∙ is) in
        (suc rest.0, rest.1)

-- the stream into an input ends at its EPID
pub record EndsThere (plan : RunPlan) (b i s : ℕ) : Type 0 where
  pub there : s < length plan.streams
  pub input : input_at plan b i ≡ Some (to_of plan s)

pub ends-there : (plan : RunPlan) (b i s : ℕ) → stream_into plan (block_at plan b) i ≡ Some s → EndsThere plan b i s
ends-there plan b i s is = option_and_then_some (stream_to plan) (slice_get (block_at plan b).ins i) s is (λ epid at found.
    let place = position-Some (is_to epid) plan.streams s no_stream found in
    record { there = place.0; input = at ∙ ap (λ (x : Epid). Some x) (sym (same-epid (plan_at plan s).to epid place.1)) })

-- the stream out of an output begins at its EPID
pub record BeginsThere (plan : RunPlan) (b j s : ℕ) : Type 0 where
  pub there : s < length plan.streams
  pub output : output_at plan b j ≡ Some (from_of plan s)

pub begins-there : (plan : RunPlan) (b j s : ℕ) → stream_out_of plan (block_at plan b) j ≡ Some s → BeginsThere plan b j s
begins-there plan b j s is = option_and_then_some (stream_from plan) (slice_get (block_at plan b).outs j) s is (λ epid at found.
    let place = position-Some (is_from epid) plan.streams s no_stream found in
    record { there = place.0; output = at ∙ ap (λ (x : Epid). Some x) (sym (same-epid (plan_at plan s).from epid place.1)) })

-- the block with an input at an EPID, and the place of it
pub record HasInput (plan : RunPlan) (b : ℕ) (epid : Epid) : Type 0 where
  pub there : b < length plan.blocks
  pub input : ℕ
  pub at : input_at plan b input ≡ Some epid

pub has-input : (plan : RunPlan) (epid : Epid) (b : ℕ) → block_in plan epid ≡ Some b → HasInput plan b epid
has-input plan epid b found =
    let place = position-Some (λ (block : BlockPlan). is_among epid block.ins) plan.blocks b no_block found in
    let at = among-at epid (block_at plan b).ins place.1 in
    record { there = place.0; input = at.0; at = at.1 }

-- the block with an output at an EPID, and the place of it
pub record HasOutput (plan : RunPlan) (b : ℕ) (epid : Epid) : Type 0 where
  pub there : b < length plan.blocks
  pub output : ℕ
  pub at : output_at plan b output ≡ Some epid

pub has-output : (plan : RunPlan) (epid : Epid) (b : ℕ) → block_out plan epid ≡ Some b → HasOutput plan b epid
has-output plan epid b found =
    let place = position-Some (λ (block : BlockPlan). is_among epid block.outs) plan.blocks b no_block found in
    let at = among-at epid (block_at plan b).outs place.1 in
    record { there = place.0; output = at.0; at = at.1 }

-- an option that holds something holds this
pub held : {A : Type 0} (o : Option A) → IsSome o → (x : A) × (o ≡ Some x)
held None is = absurd (false≢true is)
held (Some x) is = (x, refl)

module _ (tree : Plan) (plan : RunPlan) (sound : IsSound tree plan) where
  -- the block with a stream's input takes its packets
  pub consumer-is : (b i s : ℕ) → stream_into plan (block_at plan b) i ≡ Some s → consumer_of plan s ≡ Some b
  consumer-is b i s is =
      let ends = ends-there plan b i s is in
      let c = held (consumer_of plan s) (sound.ports s ends.there).1 in
      let has = has-input plan (to_of plan s) c.0 c.1 in
      let same : c.0 ≡ b = (sound.endpoints_free.0 c.0 b has.input i (to_of plan s) has.at ends.input).0 in
      c.1 ∙ ap (λ (x : ℕ). Some x) same

  -- the block with a stream's output makes its packets
  pub producer-is : (b j s : ℕ) → stream_out_of plan (block_at plan b) j ≡ Some s → producer_of plan s ≡ Some b
  producer-is b j s is =
      let begins = begins-there plan b j s is in
      let c = held (producer_of plan s) (sound.ports s begins.there).0 in
      let has = has-output plan (from_of plan s) c.0 c.1 in
      let same : c.0 ≡ b = (sound.endpoints_free.1 c.0 b has.output j (from_of plan s) has.at begins.output).0 in
      c.1 ∙ ap (λ (x : ℕ). Some x) same

  -- a block that isn't there has no ports
  past-block : (b : ℕ) → length plan.blocks ≤ b → block_at plan b ≡ no_block
  past-block b past = get_or_past plan.blocks b no_block past

  pub kinds-fit : (b : ℕ) → FitsKind (block_at plan b).kind
  kinds-fit b = by_order (cases_lt b (length plan.blocks))
    where
      by_order : (b < length plan.blocks) ⊎ (length plan.blocks ≤ b) → FitsKind (block_at plan b).kind
      by_order (inl lt) = (sound.fits.blocks b lt).kind
      by_order (inr past) = subst (λ (block : BlockPlan). FitsKind block.kind) (sym (past-block b past)) tt

  -- an input is one of its kind's
  pub input-within : (b i : ℕ) (epid : Epid) → input_at plan b i ≡ Some epid → i < inputs (block_at plan b).kind
  input-within b i epid at = by_order (cases_lt b (length plan.blocks))
    where
      by_order : (b < length plan.blocks) ⊎ (length plan.blocks ≤ b) → i < inputs (block_at plan b).kind
      by_order (inl lt) = subst (λ n. i < n) (sound.fits.blocks b lt).inputs (slice_get_within (block_at plan b).ins i epid at)
      by_order (inr past) = absurd (none-some epid (ap (λ (block : BlockPlan). slice_get block.ins i) (sym (past-block b past)) ∙ at))

  -- an output is one of its kind's
  pub output-within : (b j : ℕ) (epid : Epid) → output_at plan b j ≡ Some epid → j < outputs (block_at plan b).kind
  output-within b j epid at = by_order (cases_lt b (length plan.blocks))
    where
      by_order : (b < length plan.blocks) ⊎ (length plan.blocks ≤ b) → j < outputs (block_at plan b).kind
      by_order (inl lt) = subst (λ n. j < n) (sound.fits.blocks b lt).outputs (slice_get_within (block_at plan b).outs j epid at)
      by_order (inr past) = absurd (none-some epid (ap (λ (block : BlockPlan). slice_get block.outs j) (sym (past-block b past)) ∙ at))

  takers : (b i s : ℕ) → stream_into plan (block_at plan b) i ≡ Some s → ends_at_rx plan s ≡ is_rx (block_at plan b).kind
  takers b i s is = ap (λ o. option_map_or (λ c. is_rx (block_at plan c).kind) o false) (consumer-is b i s is)

  pub once : (b c i j s : ℕ) → stream_into plan (block_at plan b) i ≡ Some s → stream_into plan (block_at plan c) j ≡ Some s → (b ≡ c) × (i ≡ j)
  once b c i j s first second =
      sound.endpoints_free.0 b c i j (to_of plan s) (ends-there plan b i s first).input (ends-there plan c j s second).input

  pub planned : ArePlanned plan
  planned = record {
    kinds = kinds-fit;
    inputs = λ b i s is. input-within b i (to_of plan s) (ends-there plan b i s is).input;
    once = once;
    takers = takers;
  }

-- ---- no Rx stands at an endpoint

rx-at-host : (kind : BlockKind) (epid : Epid) (bank : Option ℕ) → (if is_tx kind || is_rx kind then is_host else is_endpoint) (Endpoint epid bank) ≡ true → is_rx kind ≡ false
rx-at-host Tx epid bank is = refl
rx-at-host Rx epid bank is = absurd (false≢true is)
rx-at-host Fifo epid bank is = refl
rx-at-host Split epid bank is = refl
rx-at-host (Keep n) epid bank is = refl
rx-at-host (Repeat n) epid bank is = refl
rx-at-host (Replay n) epid bank is = refl
rx-at-host (Switch n) epid bank is = refl
rx-at-host Sink epid bank is = refl

module _ (tree : Plan) (plan : RunPlan) (is : IsTree tree) (sound : IsSound tree plan) (x b : ℕ) (epid : Epid) (bank : Option ℕ)
    (endpoint : node_planned tree x ≡ Some (Endpoint epid bank)) where
  stands-there : IsTrue (stands_at tree (block_at plan b).kind epid) → is_rx (block_at plan b).kind ≡ false
  stands-there stands =
      let kind = (block_at plan b).kind in
      let named : node_with tree.nodes epid ≡ Some x = (epids_name_nodes tree is x epid).1 (ap (option_and_then node_epid) endpoint) in
      let test = if is_tx kind || is_rx kind then is_host else is_endpoint in
      let at : stands_at tree kind epid ≡ test (Endpoint epid bank) =
      ap (λ o. option_map_or (λ y. option_map_or test (node_planned tree y) false) o false) named ∙ ap (λ o. option_map_or test o false) endpoint in
      rx-at-host kind epid bank (sym at ∙ stands)

  pub endpoint-no-rx : (block_in plan epid ≡ Some b) ⊎ (block_out plan epid ≡ Some b) → is_rx (block_at plan b).kind ≡ false
  endpoint-no-rx (inl found) =
      let has = has-input plan epid b found in stands-there ((sound.endpoints b has.there).ins has.input epid has.at)
  endpoint-no-rx (inr found) =
      let has = has-output plan epid b found in stands-there ((sound.endpoints b has.there).outs has.output epid has.at)
