use Rattle.std.proofs.Common.{◌≡◌, ℕ, subst, arith}
use Rattle.fabric_flags.specs.Set.{IsNext, NoneFrom}
use Rattle.fabric_lists.specs.QueuesView.{holds}
use Rattle.fabric_events.specs.Fabrics.{present_of}
use Rattle.fabric_events.specs.Sizes.{first_loss}
use Rattle.fabric_events.proofs.StillLemmas.{hop_next, loss_next, loss_within, past_hops, past_losses, queue_within, still_past}
use Rattle.fabric_events.proofs.fabric.Fabric.next_at_queue.Goals as goal

pub returns-in-Some-clause-still : goal.returns-in-Some-clause-still
returns-in-Some-clause-still c =
    let p = present_of c.args.self.now in
    let l = c.losses-losses.result in
    let first = c.requires.past in
    let at : l ≡ first_loss c.args.sizes = c.losses-losses.ensures in
    let before = still_past p c.args.sizes c.args.k l (omega arith) in
    loss_next p c.args.sizes l c.requires.sizes at c.args.k c.in-Some.q before c.in-Some.ensures

pub returns-in-Some-clause-within : goal.returns-in-Some-clause-within
returns-in-Some-clause-within c =
    let l = c.losses-losses.result in
    let at : l ≡ first_loss c.args.sizes = c.losses-losses.ensures in
    let there = loss_within (present_of c.args.self.now) c.args.sizes l c.requires.sizes at c.in-Some.q c.in-Some.ensures.here in
    omega arith

pub returns-in-Some-next_held-clause-still : goal.returns-in-Some-next_held-clause-still
returns-in-Some-next_held-clause-still c =
    let p = present_of c.args.self.now in
    let l = c.losses-losses.result in
    let first = c.requires.past in
    let at : l ≡ first_loss c.args.sizes = c.losses-losses.ensures in
    let before = still_past p c.args.sizes c.args.k l (omega arith) in
    let past = past_losses p c.args.sizes l c.requires.sizes at c.args.k before c.in_default.ensures in
    hop_next p c.args.sizes l c.requires.sizes at c.args.k c.in-Some-next_held.q past
    (subst (λ (n : ℕ). IsNext (holds p.queues) n c.in-Some-next_held.q) c.saturating_sub.ensures c.in-Some-next_held.ensures)

pub returns-in-Some-next_held-clause-within : goal.returns-in-Some-next_held-clause-within
returns-in-Some-next_held-clause-within c =
    let l = c.losses-losses.result in
    let at : l ≡ first_loss c.args.sizes = c.losses-losses.ensures in
    let there = queue_within (present_of c.args.self.now) c.args.sizes l c.requires.sizes at c.in-Some-next_held.q c.in-Some-next_held.ensures.here in
    omega arith

pub returns-in-None-clause-still : goal.returns-in-None-clause-still
returns-in-None-clause-still c =
    let p = present_of c.args.self.now in
    let l = c.losses-losses.result in
    let first = c.requires.past in
    let at : l ≡ first_loss c.args.sizes = c.losses-losses.ensures in
    let before = still_past p c.args.sizes c.args.k l (omega arith) in
    let past = past_losses p c.args.sizes l c.requires.sizes at c.args.k before c.in_default.ensures in
    past_hops p c.args.sizes l c.requires.sizes at c.args.k c.count.result past
    (subst (NoneFrom (holds p.queues)) c.saturating_sub.ensures c.in-None.ensures) c.count.ensures.count
