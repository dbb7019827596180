use Rattle.std.proofs.Common.{arith, ◌<◌, ◌^◌}
use Rattle.chdr_words.specs.Field.{word_at}
use Rattle.chdr_words.proofs.WordLemmas.{word_of}
use Rattle.chdr_words.proofs.bytes.four_words.Goals as goal

pub returns-clause-first : goal.returns-clause-first
unfolding word_at
returns-clause-first c =
    let wide : c.args.a < 2 ^ 64 = omega arith in
    word_of c.to_le_bytes-a.result c.args.a wide c.to_le_bytes-a.ensures

pub returns-clause-second : goal.returns-clause-second
unfolding word_at
returns-clause-second c =
    let wide : c.args.b < 2 ^ 64 = omega arith in
    word_of c.to_le_bytes-b.result c.args.b wide c.to_le_bytes-b.ensures

pub returns-clause-third : goal.returns-clause-third
unfolding word_at
returns-clause-third c =
    let wide : c.args.c < 2 ^ 64 = omega arith in
    word_of c.to_le_bytes-c.result c.args.c wide c.to_le_bytes-c.ensures

pub returns-clause-fourth : goal.returns-clause-fourth
unfolding word_at
returns-clause-fourth c =
    let wide : c.args.d < 2 ^ 64 = omega arith in
    word_of c.to_le_bytes-d.result c.args.d wide c.to_le_bytes-d.ensures
