use Rattle.std.proofs.Common.{Some, drop, ◌+◌, get_or}
use Rattle.block_library.specs.declared.kind.BlockKind.TheVariants.{Tx}
use Rattle.graph_core.specs.Ports.{block_properties, properties_from}
use Rattle.property_resolver.proofs.Found.{finds_append, first_append, blocks_step}
use Rattle.property_resolver.proofs.missing.missing.Goals as goal

pub returns-in-Some : goal.returns-in-Some
returns-in-Some c =
    let v = c.args.values.now in
    let ks = c.args.kinds.now in
    let b = c.loop-block.block in
    c.loop-block.invariant (Some c.in-Some.at) (blocks_step v ks b Tx c.loop-block-test.true (Some c.in-Some.at)
    (first_append v (block_properties b (get_or ks b Tx)) (properties_from (b + 1) (drop (b + 1) ks)) c.in-Some.at c.in-Some.ensures))

pub loop-block-preserved : goal.loop-block-preserved
loop-block-preserved c =
    let v = c.args.values.now in
    let ks = c.args.kinds.now in
    let b = c.loop-block.block in
    λ found h. c.loop-block.invariant found (blocks_step v ks b Tx c.loop-block-test.true found
    (finds_append v (block_properties b (get_or ks b Tx)) (properties_from (b + 1) (drop (b + 1) ks)) found c.in_default.ensures h))
