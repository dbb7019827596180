-- The streams at the ports of a block.
use Rattle.std.proofs.Common.{◌≡◌, ℕ, zero, suc, ◌<◌, inl, inr, Bool, true, false, List, [], ◌∷◌, length, refl, sym, ◌∙◌, ap, arith, cond, get_or, eq-eqb}
use Rattle.std.specs.Prelude.{Option, None, Some, ◌==◌, ◌||◌, position, slice_get}
use Rattle.std.specs.List.{position_or_len}
use Rattle.std.specs.Option.{option_and_then}
use Rattle.std.proofs.lemmas.Bool.{cases_Bool, lt-ltb}
use Rattle.std.proofs.lemmas.List.Quantifiers.{position-Some}
use Rattle.std.proofs.lemmas.List.Sums.{position_or_len_is}
use Rattle.std.proofs.Math.Dec.{ltb}
use Rattle.block_library.specs.Blocks.{inputs}
use Rattle.block_library.specs.declared.kind.BlockKind.{BlockKind}
use Rattle.block_library.specs.declared.kind.BlockKind.TheVariants.{Tx, Rx, Fifo, Split, Keep, Repeat, Replay, Switch, Sink}
use Rattle.chdr_words.specs.declared.epid.Epid.{Epid}
use Rattle.net_topology.specs.declared.plan.Plan.{Plan}
use Rattle.net_machine.specs.declared.plan.BlockPlan.{BlockPlan}
use Rattle.net_machine.specs.declared.plan.RunPlan.{RunPlan}
use Rattle.net_machine.specs.CanBegin.{AreApart}
use Rattle.net_machine.specs.Plans.{block_at, consumer_of, is_among, is_from, is_to, is_tx, no_stream, plan_at, producer_of, stream_from, stream_into, stream_out_of, stream_to}
use Rattle.net_flows.specs.Lasting.{IsSound}
use Rattle.net_flows.proofs.Keeping.{same-epid}

-- ---- places in lists

-- the first place that passes a test
first-place : {A : Type 0} (p : A → Bool) (xs : List A) (s : ℕ) (d : A) → s < length xs → p (get_or xs s d) ≡ true →
    ((k : ℕ) → k < s → p (get_or xs k d) ≡ false) → position p xs ≡ Some s
first-place p xs s d lt here before =
    let place : position_or_len p xs ≡ s = position_or_len_is p xs s d (omega (arith, lt)) before (λ l. here) in
    ap (λ i. cond (ltb i (length xs)) (Some i) None) place ∙ ap (λ b. cond b (Some s) None) (lt-ltb s (length xs) lt)

record IsAt (epid : Epid) (es : List Epid) : Type 0 where
  place : ℕ
  at : slice_get es place ≡ Some epid

among-at : (epid : Epid) (es : List Epid) → is_among epid es ≡ true → IsAt epid es
among-at epid [] h = cc
among-at epid (e ∷ es) h = by_first (e.0 == epid.0) refl (among-at epid es) h
  where
    by_first : (b : Bool) → (e.0 == epid.0) ≡ b → (is_among epid es ≡ true → IsAt epid es) → (b || is_among epid es) ≡ true → IsAt epid (e ∷ es)
    by_first true same rest g = record { place = zero; at = ap Some (same-epid e epid same) }
    by_first false differs rest g = let further = rest g in record { place = suc further.place; at = further.at }

some-epid : (a b : Epid) → ◌≡◌ {A = Option Epid} (Some a) (Some b) → a ≡ b
some-epid a b e = cc

or-second : (a b : Bool) → b ≡ true → (a || b) ≡ true
or-second true b h = refl
or-second false b h = h

at-among : (epid : Epid) (es : List Epid) (j : ℕ) → slice_get es j ≡ Some epid → is_among epid es ≡ true
at-among epid [] j h = cc
at-among epid (e ∷ es) zero h = rw (some-epid e epid h, eq-eqb epid.0 epid.0 refl) refl
at-among epid (e ∷ es) (suc j) h = or-second (e.0 == epid.0) (is_among epid es) (at-among epid es j h)

-- on this side of blocks, block b is the one with its own EPID
found-block : (side : BlockPlan → List Epid) (plan : RunPlan) (b i : ℕ) (epid : Epid) → AreApart (λ a j. slice_get (side (block_at plan a)) j) → b < length plan.blocks →
    slice_get (side (block_at plan b)) i ≡ Some epid → position (λ (block : BlockPlan). is_among epid (side block)) plan.blocks ≡ Some b
found-block side plan b i epid apart lt here =
    first-place (λ (block : BlockPlan). is_among epid (side block)) plan.blocks b _ lt (at-among epid (side (block_at plan b)) i here) before
  where
    before : (k : ℕ) → k < b → is_among epid (side (block_at plan k)) ≡ false
    before k less =
        elim (cases_Bool (is_among epid (side (block_at plan k)))) [
          | inl yes_it ↦ let at = among-at epid (side (block_at plan k)) yes_it in absurd (omega (arith, less, (apart k b at.place i epid at.at here).0))
          | inr none ↦ none
        ]

-- ---- the stream into an input, and the one out of an output

-- stream s ends at input i of block b
pub record IsInto (plan : RunPlan) (b i s : ℕ) : Type 0 where
  pub epid : Epid
  pub port : slice_get (block_at plan b).ins i ≡ Some epid
  pub found : stream_to plan epid ≡ Some s
  pub there : s < length plan.streams
  pub consumer : consumer_of plan s ≡ Some b

-- stream t begins at output j of block b
pub record IsOut (plan : RunPlan) (b j t : ℕ) : Type 0 where
  pub epid : Epid
  pub port : slice_get (block_at plan b).outs j ≡ Some epid
  pub found : stream_from plan epid ≡ Some t
  pub there : t < length plan.streams
  pub producer : producer_of plan t ≡ Some b

pub ends-at : (plan : RunPlan) (epid : Epid) (s : ℕ) → stream_to plan epid ≡ Some s → (s < length plan.streams) × ((plan_at plan s).to ≡ epid)
ends-at plan epid s found =
    let place = position-Some (is_to epid) plan.streams s no_stream found in
    (place.0, same-epid (plan_at plan s).to epid place.1)

pub begins-at : (plan : RunPlan) (epid : Epid) (s : ℕ) → stream_from plan epid ≡ Some s → (s < length plan.streams) × ((plan_at plan s).from ≡ epid)
begins-at plan epid s found =
    let place = position-Some (is_from epid) plan.streams s no_stream found in
    (place.0, same-epid (plan_at plan s).from epid place.1)

pub into-of : (tree : Plan) (plan : RunPlan) (b i s : ℕ) → IsSound tree plan → b < length plan.blocks → stream_into plan (block_at plan b) i ≡ Some s → IsInto plan b i s
into-of tree plan b i s sound lt is = by_port (slice_get (block_at plan b).ins i) refl is
  where
    by_port : (o : Option Epid) → slice_get (block_at plan b).ins i ≡ o → option_and_then (stream_to plan) o ≡ Some s → IsInto plan b i s
    by_port None port h = cc
    by_port (Some epid) port h =
        let end = ends-at plan epid s h in
        record {
          epid = epid;
          port = port;
          found = h;
          there = end.0;
          consumer = found-block (λ (block : BlockPlan). block.ins) plan b i (plan_at plan s).to sound.endpoints_free.0 lt (port ∙ ap Some (sym end.1));
        }

pub out-of : (tree : Plan) (plan : RunPlan) (b j t : ℕ) → IsSound tree plan → b < length plan.blocks → stream_out_of plan (block_at plan b) j ≡ Some t → IsOut plan b j t
out-of tree plan b j t sound lt is = by_port (slice_get (block_at plan b).outs j) refl is
  where
    by_port : (o : Option Epid) → slice_get (block_at plan b).outs j ≡ o → option_and_then (stream_from plan) o ≡ Some t → IsOut plan b j t
    by_port None port h = cc
    by_port (Some epid) port h =
        let end = begins-at plan epid t h in
        record {
          epid = epid;
          port = port;
          found = h;
          there = end.0;
          producer = found-block (λ (block : BlockPlan). block.outs) plan b j (plan_at plan t).from sound.endpoints_free.1 lt (port ∙ ap Some (sym end.1));
        }

-- ---- a Tx has no input

no-input : (kind : BlockKind) → is_tx kind ≡ true → inputs kind ≡ 0
no-input Tx h = refl
no-input Rx h = cc
no-input Fifo h = cc
no-input Split h = cc
no-input (Keep n) h = cc
no-input (Repeat n) h = cc
no-input (Replay n) h = cc
no-input (Switch n) h = cc
no-input Sink h = cc

none-in : (es : List Epid) (i : ℕ) (epid : Epid) → length es ≡ 0 → slice_get es i ≡ Some epid → ⊥
none-in [] i epid none h = cc
none-in (e ∷ es) i epid none h = omega arith

pub no-tx : (tree : Plan) (plan : RunPlan) (b i s : ℕ) → IsSound tree plan → b < length plan.blocks → IsInto plan b i s → is_tx (block_at plan b).kind ≡ false
no-tx tree plan b i s sound lt into =
    elim (cases_Bool (is_tx (block_at plan b).kind)) [
      | inl tx ↦ absurd (none-in (block_at plan b).ins i into.epid ((sound.fits.blocks b lt).inputs ∙ no-input (block_at plan b).kind tx) into.port)
      | inr not_tx ↦ not_tx
    ]
