use Rattle.std.proofs.Common.{◌≡◌, ◌∙◌, drop, sum, ap, arith, ℕ, List, Option, slice_get}
use Rattle.std.specs.Prelude.{unwrap_or}
use Rattle.std.proofs.lemmas.List.{drop-drop}
use Rattle.circular_buffer.specs.Buffer.{Buffer}
use Rattle.fabric_parts.proofs.StreamLemmas.{sum-first, sum-taken}
use Rattle.fabric_parts.proofs.stream.release.Goals as goal

pub overflow_add-bytes : goal.overflow_add-bytes
overflow_add-bytes c =
    let first = sum-first c.loop.sizes.items in
    let is : c.unwrap_or-size.result ≡ unwrap_or (slice_get c.loop.sizes.items 0) 0 =
    c.unwrap_or-size.ensures ∙ ap (λ (o : Option ℕ). unwrap_or o 0) c.pop_front.ensures.value in
    omega (arith, first, is, c.loop.invariant.1, c.requires)

pub loop-preserved : goal.loop-preserved
loop-preserved c =
    let first = sum-first c.loop.sizes.items in
    let rest = ap (λ (b : Buffer ℕ). b.items) c.pop_front.ensures.items in
    let capacity = ap (λ (b : Buffer ℕ). b.capacity) c.pop_front.ensures.items in
    let left = ap sum rest in
    let is : c.unwrap_or-size.result ≡ unwrap_or (slice_get c.loop.sizes.items 0) 0 =
    c.unwrap_or-size.ensures ∙ ap (λ (o : Option ℕ). unwrap_or o 0) c.pop_front.ensures.value in (
      rest ∙ ap (λ (l : List ℕ). drop 1 l) c.loop.invariant.0 ∙ drop-drop 1 c.loop.counter c.args.sizes.now.items,
      omega (arith, first, left, is, c.loop.invariant.1),
      capacity ∙ c.loop.invariant.2,
    )

pub returns-clause-sum : goal.returns-clause-sum
returns-clause-sum c =
    sum-taken c.args.sizes.now.items c.args.count c.loop.sizes.items c.loop.bytes (c.loop.invariant.0 ∙ ap (λ (k : ℕ). drop k c.args.sizes.now.items) (omega arith)) c.loop.invariant.1
