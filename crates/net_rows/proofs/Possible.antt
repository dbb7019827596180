-- The plan of the worked run can begin.
use Rattle.std.proofs.Common.{◌≡◌, ℕ, inl, true, [], ◌∷◌, refl, sym, ◌∙◌, ap, subst, arith, zero, suc}
use Rattle.std.specs.Prelude.{IsSome, IsTrue, Option, Some, None}
use Rattle.chdr_words.specs.declared.epid.Epid.{Epid}
use Rattle.stream_endpoint.specs.Flow.{IsValid}
use Rattle.net_machine.specs.Begin.{built}
use Rattle.net_machine.specs.CanBegin.{EachBlock, EachStream, FitsBlock, FitsRun, HasStreams, HaveOneForm, HaveOwnEnds, IsLed, KeepsForm, NeverReturns, Reaches, here, along, StandsAt, from_of, input_at, output_at, stands_at, to_of}
use Rattle.net_machine.specs.Plans.{block_at, plan_at, producer_of, stream_from, stream_to}
use Rattle.net_rows.specs.Networks.{epid, line}
use Rattle.net_rows.specs.Plans.{IsPossible, three}

some-same : {A : Type 0} {x y : A} → ◌≡◌ {A = Option A} (Some x) (Some y) → x ≡ y
some-same e = cc

none-some : {A : Type 0} {B : Type 0} {x : A} → ◌≡◌ {A = Option A} None (Some x) → B
none-some {A} {B} {x} e = absurd (impossible x e)
  where
    impossible : (x : A) → ◌≡◌ {A = Option A} None (Some x) → ⊥
    impossible x e = cc

-- one stream, and two blocks
each-stream : (P : ℕ → Type 0) → P 0 → EachStream three P
each-stream P first zero lt = first
each-stream P first (suc s) lt = absurd (omega (arith, lt))

each-block : (P : ℕ → Type 0) → P 0 → P 1 → EachBlock three P
each-block P first second zero lt = first
each-block P first second (suc zero) lt = second
each-block P first second (suc (suc b)) lt = absurd (omega (arith, lt))

fits : FitsRun three
fits = record {
  blocks = each-block (λ b. FitsBlock (block_at three b))
      (record { kind = tt; inputs = refl; outputs = refl; source = record { packets = omega arith; spp_low = omega arith; spp_high = omega arith; item = inl refl } })
      (record { kind = tt; inputs = refl; outputs = refl; source = record { packets = omega arith; spp_low = omega arith; spp_high = omega arith; item = inl refl } });
  starts = each-stream _ (omega arith);
  flows = each-stream (λ s. IsValid (plan_at three s).flow) (record {
    some_bytes = omega arith;
    enough_bytes = omega arith;
    few_bytes = omega arith;
    some_packets = omega arith;
    enough_packets = omega arith;
    few_packets = omega arith;
    not_short = omega arith;
    not_long = omega arith;
  });
  forms = each-stream (KeepsForm three) (λ a b p c.
      subst (λ x. HaveOneForm three x b) (some-same p) (subst (λ y. HaveOneForm three 0 y) (some-same c) (record { item = refl; spp = refl })));
}

-- where a property holds of the one port, it holds of all
one-input : (P : Epid → Type 0) → P (epid 2) → (i : ℕ) (e : Epid) → input_at three 1 i ≡ Some e → P e
one-input P here_ zero e is = subst P (some-same is) here_
one-input P here_ (suc i) e is = none-some is

one-output : (P : Epid → Type 0) → P (epid 1) → (j : ℕ) (e : Epid) → output_at three 0 j ≡ Some e → P e
one-output P here_ zero e is = subst P (some-same is) here_
one-output P here_ (suc j) e is = none-some is

only-input : (b i : ℕ) (e : Epid) → input_at three b i ≡ Some e → (b ≡ 1) × (i ≡ 0)
only-input zero i e is = none-some is
only-input (suc zero) zero e is = (refl, refl)
only-input (suc zero) (suc i) e is = none-some is
only-input (suc (suc b)) i e is = none-some is

only-output : (b j : ℕ) (e : Epid) → output_at three b j ≡ Some e → (b ≡ 0) × (j ≡ 0)
only-output zero zero e is = (refl, refl)
only-output zero (suc j) e is = none-some is
only-output (suc zero) j e is = none-some is
only-output (suc (suc b)) j e is = none-some is

own : (end_at : ℕ → Epid) → HaveOwnEnds three end_at
own end_at s t ls lt same = omega (arith, ls, lt)

-- no stream leaves the Rx
no-producer : (s : ℕ) → producer_of three s ≡ Some 1 → ⊥
no-producer zero is = let wrong : 0 ≡ 1 = some-same is in omega (arith, wrong)
no-producer (suc s) is = none-some is

stays : {x y : ℕ} → Reaches three x y → x ≡ 1 → y ≡ 1
stays here at = at
stays (along s b from to rest) at = absurd (no-producer s (from ∙ ap Some at))

acyclic : NeverReturns three 0
acyclic a b p c reaches =
    let begins : 0 ≡ a = some-same p in
    let ends : 1 ≡ b = some-same c in
    let wrong : a ≡ 1 = stays reaches (sym ends) in
    omega (arith, begins, wrong)

pub possible : IsPossible
possible = record {
  fits = fits;
  few_blocks = omega arith;
  endpoints = each-block (StandsAt line three)
      (record { ins = λ i e is. none-some is; outs = one-output (λ e. IsTrue (stands_at line (block_at three 0).kind e)) refl })
      (record { ins = one-input (λ e. IsTrue (stands_at line (block_at three 1).kind e)) refl; outs = λ j e is. none-some is });
  endpoints_free = (
    λ a b i j e first second. let x = only-input a i e first in let y = only-input b j e second in (x.0 ∙ sym y.0, x.1 ∙ sym y.1),
    λ a b i j e first second. let x = only-output a i e first in let y = only-output b j e second in (x.0 ∙ sym y.0, x.1 ∙ sym y.1),
  );
  few_streams = omega arith;
  ports = each-stream _ (refl, refl);
  ports_free = (own (from_of three), own (to_of three));
  acyclic = each-stream (NeverReturns three) acyclic;
  no_loops = each-stream _ (λ same. let wrong : 1 ≡ 2 = ap (λ (e : Epid). e.0) same in omega (arith, wrong));
  no_open_ports = each-block (HasStreams three)
      (record { ins = λ i e is. none-some is; outs = one-output (λ e. IsSome (stream_from three e)) refl })
      (record { ins = one-input (λ e. IsSome (stream_to three e)) refl; outs = λ j e is. none-some is });
  routed = each-stream (IsLed line (built line true []).nodes three) (record {
    forth = record { source = 0; target = 2; first = 0; links = 2 ∷ []; from = refl; to = refl; out = refl; way = (refl, refl) };
    back = record { source = 2; target = 0; first = 3; links = 1 ∷ []; from = refl; to = refl; out = refl; way = (refl, refl) };
  });
  small = each-stream _ (omega arith);
  few_packets = each-stream _ (omega arith);
}
