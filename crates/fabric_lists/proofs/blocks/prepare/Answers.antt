use Rattle.std.proofs.Common.{◌≡◌, ◌∙◌, ap, Some}
use Rattle.block_library.specs.Memory.{made}
use Rattle.net_present.specs.Present.{BlockNow}
use Rattle.fabric_lists.proofs.blocks.prepare.Goals as goal
use Rattle.fabric_lists.proofs.BlockLemmas.{block-at, block-same, made-there}
use Rattle.fabric_lists.proofs.SiteLemmas.{on-ok}

pub returns-clause-now : goal.returns-clause-now
returns-clause-now c =
    block-same c.args.blocks.now.items c.args.b c.index_mut-block.result.now c.prepare.new.self c.index_mut-block.ensures.value
    c.prepare.ensures.now

pub returns-clause-ok : goal.returns-clause-ok
returns-clause-ok c =
    let parts = c.args.blocks.now.items in
    let old = c.index_mut-block.result.now in
    on-ok c.prepare.result (λ (h : c.prepare.new.self.prepared ≡ Some (made old.now.kept c.args.packet.now)).
    made-there parts c.args.b c.prepare.new.self c.requires.there ∙ h
    ∙ ap (λ (n : BlockNow). Some (made n.kept c.args.packet.now))
    (block-at parts c.args.b old c.requires.there c.index_mut-block.ensures.value)) c.prepare.ensures.ok
