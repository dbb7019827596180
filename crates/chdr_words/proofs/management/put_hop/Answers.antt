use Rattle.std.proofs.Common.{◌-◌, arith}
use Rattle.chdr_words.proofs.ManagementLemmas.{hop_step_at, same_item}
use Rattle.chdr_words.proofs.management.put_hop.Goals as goal

pub loop-op-preserved : goal.loop-op-preserved
loop-op-preserved c =
    record { left = omega (arith, c.loop-op.invariant.left); bytes = hop_step_at c.args.hop.now c.loop-op.op-index (c.loop-op.pending - 1) c.word_of.result _ c.loop-op.out.items _ c.to_le_bytes.result _ c.loop-op-test.true (same_item c.args.hop.now c.loop-op.op-index _ _ c.loop-op-test.true) (omega (arith, c.loop-op.invariant.left)) c.word_of.ensures c.to_le_bytes.ensures c.in_ok-extend_from_slice.ensures.items c.loop-op.invariant.bytes }
