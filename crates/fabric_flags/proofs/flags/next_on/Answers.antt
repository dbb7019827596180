use Rattle.std.proofs.Common.{◌/◌, ◌%◌, ◌^◌, ◌<◌, get_or, refl, arith, w64}
use Rattle.std.proofs.lemmas.Nat.Bits.{bit_at-trailing_zeros}
use Rattle.fabric_flags.proofs.FlagLemmas.{next-here, next-there, none-here, within-here}
use Rattle.fabric_flags.proofs.flags.next_on.Goals as goal

pub overflow_add-result : goal.overflow_add-result
overflow_add-result c =
    let rest = get_or c.args.words.now (c.args.n / 64) 0 / 2 ^ (c.args.n % 64) in
    let some : 0 < rest = omega (arith, c.if-rest-ne0.true) in
    let low : get_or c.args.words.now (c.args.n / 64) 0 < 2 ^ 64 = omega (arith, c.type_inv.words (c.args.n / 64)) in
    omega (arith, within-here c.args.words.now c.args.n rest refl some low, c.requires, c.if-start-words.false)

pub returns-then-rest-ne0 : goal.returns-then-rest-ne0
returns-then-rest-ne0 c =
    let rest = get_or c.args.words.now (c.args.n / 64) 0 / 2 ^ (c.args.n % 64) in
    let some : 0 < rest = omega (arith, c.if-rest-ne0.true) in
    let low : get_or c.args.words.now (c.args.n / 64) 0 < 2 ^ 64 = omega (arith, c.type_inv.words (c.args.n / 64)) in
    next-here c.args.words.now c.args.n rest refl some low

pub loop-k-init : goal.loop-k-init
loop-k-init c = none-here c.args.words.now c.args.n (omega (arith, c.if-rest-ne0.false))

pub overflow_mul-result : goal.overflow_mul-result
overflow_mul-result c = omega (arith, c.requires, c.loop-k-test.true)

pub overflow_add-result-then-word-ne0 : goal.overflow_add-result-then-word-ne0
overflow_add-result-then-word-ne0 c =
    let word = get_or c.args.words.now c.loop-k.k 0 in
    let some : 0 < word = omega (arith, c.if-word-ne0.true) in
    let low : word < 2 ^ 64 = omega (arith, c.type_inv.words c.loop-k.k) in
    omega (arith, (bit_at-trailing_zeros w64 word some low).0, c.requires, c.loop-k-test.true)

pub returns-then-word-ne0 : goal.returns-then-word-ne0
returns-then-word-ne0 c =
    let word = get_or c.args.words.now c.loop-k.k 0 in
    let some : 0 < word = omega (arith, c.if-word-ne0.true) in
    let low : word < 2 ^ 64 = omega (arith, c.type_inv.words c.loop-k.k) in
    next-there c.args.words.now c.args.n c.loop-k.k (omega (arith, c.loop-k.auto.k)) c.loop-k.invariant some low
