use Rattle.std.proofs.Common.{◌+◌, ◌*◌, ◌/◌, ◌<◌, ℕ, length, refl, arith}
use Rattle.block_library.proofs.SampleLemmas.{index-below, index-is, repeated-step}
use Rattle.block_library.proofs.make.repeated_bytes.Goals as goal

pub prove-unreachable-requires : goal.prove-unreachable-requires
prove-unreachable-requires c =
    let count : ℕ = length c.args.samples.now / c.args.item in
    let place = c.loop-i.invariant.place in
    let below : c.loop-i.place.index < count =
    index-below c.loop-i.place.index c.args.n c.loop-i.place.turn (c.args.k * count + c.loop-i._i) c.loop-i._i count
    c.args.k place.at place.turn refl c.loop-i-test.true c.requires.within in
    omega (arith, below, c.if-prove.true)

pub loop-i-preserved : goal.loop-i-preserved
loop-i-preserved c =
    let count : ℕ = length c.args.samples.now / c.args.item in
    let place = c.loop-i.invariant.place in
    record {
      bytes =
          repeated-step c.args.n c.args.item c.args.samples.now (c.args.k * count) c.loop-i._i c.loop-i.place.index _ _
          (index-is c.loop-i.place.index c.args.n c.loop-i.place.turn (c.args.k * count + c.loop-i._i) place.at place.turn)
          c.loop-i.invariant.bytes c.in_ok-push_sample.ensures;
      place = record {
        turn = c.step.ensures.turn;
        at = omega (arith, c.step.ensures.at, place.at);
      };
    }
