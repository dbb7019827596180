use Rattle.std.proofs.Common.{◌-◌, ◌%◌, arith, ◌∙◌}
use Rattle.std.proofs.lemmas.Nat.{mod_below}
use Rattle.block_library.proofs.StrideLemmas.{kept-jump, kept-none, turn-first, turn-more}
use Rattle.block_library.proofs.make.kept_bytes.Goals as goal

pub loop-index-init : goal.loop-index-init
loop-index-init c =
    let n = c.args.n in
    let low = c.requires.n in
    record {
      before = λ k le near. c.in_ok-bytes.ensures.items ∙ kept-none n c.args.item c.args.phase c.args.samples.now k (omega arith) le;
      turn = turn-first n c.args.phase (omega arith);
      near = let below = mod_below (n - c.args.phase % n) n (omega arith) in omega arith;
    }

pub loop-index-preserved : goal.loop-index-preserved
loop-index-preserved c =
    let n = c.args.n in
    let i = c.loop-index.index in
    record {
      before = λ k le near.
          kept-jump n c.args.item c.args.phase c.args.samples.now i k _ _ c.loop-index.invariant.turn (omega arith) le
          (c.loop-index.invariant.before i (omega arith) (omega arith)) c.in_ok-push_sample.ensures;
      turn = turn-more n c.args.phase i (omega arith) c.loop-index.invariant.turn;
      near = omega arith;
    }
