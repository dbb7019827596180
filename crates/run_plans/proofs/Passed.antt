-- How many packets a block passes on, counted to one past the limit.
use Rattle.std.proofs.Common.{◌≡◌, ◌∙◌, ℕ, zero, suc, ◌+◌, ◌-◌, ◌*◌, ◌<◌, ◌≤◌, ◌⊎◌, inl, inr, refl, sym, ap, Bool, false, cond, min, arith, Option, Some}
use Rattle.std.specs.Option.{option_map_or}
use Rattle.std.proofs.lemmas.Bool.{cases_lt}
use Rattle.net_machine.specs.CanBegin.{bound_through, factor_of, passed_input}
use Rattle.net_machine.specs.Plans.{block_at, is_tx, producer_of, stream_into}
use Rattle.net_machine.specs.declared.plan.BlockPlan.{BlockPlan}
use Rattle.net_machine.specs.declared.plan.RunPlan.{RunPlan}

-- a factor of a capped number passes the cap if that of the whole number does
times_capped : (n x : ℕ) → min (n * min x 16385) 16385 ≡ min (n * x) 16385
times_capped zero x = omega arith
times_capped (suc n) x = by (cases_lt x 16385)
  where
    by : (x < 16385) ⊎ (16385 ≤ x) → min (suc n * min x 16385) 16385 ≡ min (suc n * x) 16385
    by (inl lt) = let e : min x 16385 ≡ x = omega arith in ap (λ (y : ℕ). min (suc n * y) 16385) e
    by (inr le) =
        let e : min x 16385 ≡ 16385 = omega arith in
        let one : suc n * 16385 ≡ n * 16385 + 16385 = omega arith in
        let other : suc n * x ≡ n * x + x = omega arith in
        ap (λ (y : ℕ). min (suc n * y) 16385) e ∙ (let z : min (suc n * 16385) 16385 ≡ 16385 = omega arith in let y : min (suc n * x) 16385 ≡ 16385 = omega arith in z ∙ sym y)

-- what a block gives of what it is passed
given : RunPlan → ℕ → BlockPlan → ℕ
given plan k block = factor_of block.kind * option_map_or (bound_through k plan) (stream_into plan block (passed_input block.kind)) 0

bound-is : (plan : RunPlan) (k s b : ℕ) → producer_of plan s ≡ Some b → is_tx (block_at plan b).kind ≡ false
    → bound_through (suc k) plan s ≡ given plan k (block_at plan b)
unfolding given
bound-is plan k s b made other =
    ap (λ (o : Option ℕ). option_map_or (λ c. cond (is_tx (block_at plan c).kind) (block_at plan c).packets (given plan k (block_at plan c))) o 0) made
    ∙ ap (λ (t : Bool). cond t (block_at plan b).packets (given plan k (block_at plan b))) other

pub passed_on : (plan : RunPlan) (k s b : ℕ) (block : BlockPlan) (factor passed result : ℕ) (stream : Option ℕ)
    → (k ≡ 0 → ⊥) → producer_of plan s ≡ Some b → block ≡ block_at plan b → is_tx block.kind ≡ false
    → factor ≡ factor_of block.kind → stream ≡ stream_into plan block (passed_input block.kind)
    → passed ≡ min (option_map_or (bound_through (k - 1) plan) stream 0) 16385
    → result ≡ min (factor * passed) 16385
    → result ≡ min (bound_through k plan s) 16385
unfolding given
passed_on plan zero s b block factor passed result stream some made is other by from got gives = absurd (some refl)
passed_on plan (suc k) s b block factor passed result stream some made is other by from got gives =
    let less : suc k - 1 ≡ k = omega arith in
    let whole : ℕ = option_map_or (bound_through k plan) (stream_into plan block (passed_input block.kind)) 0 in
    let all : passed ≡ min whole 16385 = got
    ∙ ap (λ (j : ℕ). min (option_map_or (bound_through j plan) stream 0) 16385) less
    ∙ ap (λ (o : Option ℕ). min (option_map_or (bound_through k plan) o 0) 16385) from in
    gives
    ∙ ap (λ (f : ℕ). min (f * passed) 16385) by
    ∙ ap (λ (p : ℕ). min (factor_of block.kind * p) 16385) all
    ∙ times_capped (factor_of block.kind) whole
    ∙ ap (λ (x : BlockPlan). min (given plan k x) 16385) is
    ∙ sym (ap (λ (n : ℕ). min n 16385) (bound-is plan k s b made (ap (λ (x : BlockPlan). is_tx x.kind) (sym is) ∙ other)))
