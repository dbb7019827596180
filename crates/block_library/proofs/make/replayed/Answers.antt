use Rattle.std.proofs.Common.{◌++◌, ◌∷◌, [], ◌∙◌, ap, sym, arith}
use Rattle.block_library.proofs.SampleLemmas.{flat_map_more}
use Rattle.block_library.proofs.make.replayed.Goals as goal

pub loop-turn-preserved : goal.loop-turn-preserved
loop-turn-preserved c =
    let group = c.args.group.now ++ c.args.packet.now ∷ [] in
    c.in_ok-push_group.ensures
    ∙ ap (λ xs. xs ++ group) c.loop-turn.invariant
    ∙ sym (flat_map_more (λ _. group) 0 c.loop-turn._turn c.loop-turn._turn (omega arith))
