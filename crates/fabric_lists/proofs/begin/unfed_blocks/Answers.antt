use Rattle.fabric_lists.specs.Opened.{unfed}
use Rattle.fabric_lists.specs.BlocksView.{block_in}
use Rattle.fabric_lists.proofs.PartLemmas.{one-more}
use Rattle.fabric_lists.proofs.begin.unfed_blocks.Goals as goal

pub loop-b-preserved : goal.loop-b-preserved
loop-b-preserved c =
    one-more block_in _ _ _ (unfed c.args.plan.now) c.loop-b.b c.in_ok-push.ensures.items c.loop-b.invariant c.in_ok-unfed_block.ensures
