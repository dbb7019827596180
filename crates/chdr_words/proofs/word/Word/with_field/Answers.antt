use Rattle.std.proofs.Common.{arith, ◌<◌, ◌^◌}
use Rattle.chdr_words.proofs.FieldLemmas.{replaced}
use Rattle.chdr_words.proofs.word.Word.with_field.Goals as goal

pub overflow_add-result : goal.overflow_add-result
overflow_add-result c =
    let wide : c.args.self.0 < 2 ^ 64 = omega arith in
    let made = replaced c.args.self.0 c.args.hi c.args.lo c.field-old.result c.args.value c.requires.order c.requires.within wide c.field-old.ensures c.requires.fits in
    omega (arith, made.fits)

pub returns : goal.returns
returns c =
    let wide : c.args.self.0 < 2 ^ 64 = omega arith in
    (replaced c.args.self.0 c.args.hi c.args.lo c.field-old.result c.args.value c.requires.order c.requires.within wide c.field-old.ensures c.requires.fits).is
