use Rattle.std.proofs.Common.{arith, ap, rules, subst}
use Rattle.std.proofs.lemmas.Grind.{common_steps}
use Rattle.block_library.specs.Blocks.{FitsKind}
use Rattle.block_library.specs.Memory.{BlockView, made, moved, gives, after_feed}
use Rattle.block_library.proofs.HistoryLemmas.{goes_on, same_lists}
use Rattle.block_library.proofs.MovedLemmas.{given_first, given_second}
use Rattle.block_library.proofs.block.Block.feed.Goals as goal

pub returns-clause-first : goal.returns-clause-first
unfolding made moved gives after_feed
returns-clause-first c =
    let kept = c.args.self.now.kept in
    let fits = subst (λ (seen : BlockView). FitsKind seen.kept.kind) c.self.view_is c.self.invariant.0 in
    let whole = given_first kept.kind kept.item kept.phase kept.group c.args.port c.args.packet fits in
    grind (arith, common_steps, whole)

pub returns-clause-second : goal.returns-clause-second
unfolding made moved gives after_feed
returns-clause-second c =
    let kept = c.args.self.now.kept in
    let whole = given_second kept.kind kept.item kept.phase kept.group c.args.port c.args.packet in
    grind (arith, common_steps, whole)

pub returns-clause-next : goal.returns-clause-next
unfolding made moved gives after_feed
returns-clause-next c =
    let first = returns-clause-first c in
    let second = returns-clause-second c in
    first_of (search rules, grind (arith, common_steps))

pub returns-clause-history : goal.returns-clause-history
returns-clause-history c = λ fed stands.
    goes_on c.args.self.now.kept _ fed c.args.port c.args.packet _ (subst (λ (seen : BlockView). FitsKind seen.kept.kind) c.self.view_is c.self.invariant.0)
    c.requires.port
    (ap (λ (seen : BlockView). seen.kept) (returns-clause-next c))
    (same_lists _ _ _ _ (returns-clause-first c) (returns-clause-second c)) stands
