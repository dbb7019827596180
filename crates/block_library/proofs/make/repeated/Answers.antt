use Rattle.block_library.specs.Blocks.{repeated_part}
use Rattle.block_library.proofs.SampleLemmas.{map-step}
use Rattle.block_library.proofs.make.repeated.Goals as goal

pub loop-k-preserved : goal.loop-k-preserved
loop-k-preserved c = record {
  made =
      map-step (repeated_part c.args.n c.args.item c.args.packet.now) c.loop-k.k _ _ _ c.loop-k.invariant.made
      c.in_ok-next.ensures.part c.in_ok-push.ensures.items;
  place = c.in_ok-next.ensures.place;
}
