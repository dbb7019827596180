use Rattle.std.proofs.Common.{◌∙◌, ap}
use Rattle.net_present.specs.Present.{BlockNow}
use Rattle.net_present.specs.Kept.{block_now_at}
use Rattle.net_present.specs.Onward.{block_fed}
use Rattle.fabric_parts.specs.Blocks.{BlockSeen}
use Rattle.fabric_lists.specs.BlocksView.{blocks_of}
use Rattle.fabric_lists.proofs.blocks.feed.Goals as goal
use Rattle.fabric_lists.proofs.BlockLemmas.{block-at, block-set}

pub returns-clause-now : goal.returns-clause-now
returns-clause-now c =
    let parts = c.args.blocks.now.items in
    block-set parts c.args.b c.feed.new.self (block_fed c.args.port c.args.packet (block_now_at (blocks_of parts) c.args.b))
    (ap (λ (b : BlockSeen). b.now) c.feed.ensures.next
    ∙ ap (λ (n : BlockNow). block_fed c.args.port c.args.packet n)
    (block-at parts c.args.b c.index_mut-block.result.now c.requires.there c.index_mut-block.ensures.value))
