use Rattle.std.proofs.Common.{◌≡◌, ◌<◌, ℕ, slice_get, Some, ◌-◌, ◌*◌, ◌≤◌, ◌/◌, ◌%◌, zero, suc, refl, ◌∙◌, arith}
use Rattle.net_machine.specs.declared.event.Event.TheVariants.{Ask, Enter, Feed, Hop, Lose, Reply, Report}
use Rattle.net_machine.specs.Choice.{feeds_of}
use Rattle.fabric_events.proofs.candidates.Sizes.event.Goals as goal
use Rattle.fabric_events.proofs.PlaceLemmas.{among, behind, commands_at, commands_length, each_at, each_length, feeds_at, feeds_length}

feed-of : (b i : ℕ) → i < 2 → slice_get (feeds_of b) i ≡ Some (Feed b i)
feed-of b zero h = refl
feed-of b (suc zero) h = refl
feed-of b (suc (suc i)) h = absurd (omega arith)

pub returns-then-place-streams : goal.returns-then-place-streams
returns-then-place-streams c =
    let h : c.args.place < c.args.self.streams = c.if-place-streams.true in
    among _ _ c.args.self.streams _ _ (each_length Enter c.args.self.streams) h (each_at Enter c.args.self.streams c.args.place h)

pub returns-then-place-streams-2 : goal.returns-then-place-streams-2
returns-then-place-streams-2 c =
    let g0 : c.args.self.streams ≤ c.args.place = c.if-place-streams.false in
    let h : c.args.place - c.args.self.streams < (3 * c.args.self.streams) = c.if-place-streams-2.true in
    behind _ _ c.args.self.streams _ _ (each_length Enter c.args.self.streams) g0 (among _ _ (3 * c.args.self.streams) _ _ (commands_length c.args.self.streams) h (commands_at c.args.self.streams (c.args.place - c.args.self.streams) h ∙ c.command.ensures ((c.args.place - c.args.self.streams) / 3)))

pub returns-then-place-streams-3 : goal.returns-then-place-streams-3
returns-then-place-streams-3 c =
    let g0 : c.args.self.streams ≤ c.args.place = c.if-place-streams.false in
    let g1 : (3 * c.args.self.streams) ≤ c.args.place - c.args.self.streams = c.if-place-streams-2.false in
    let h : c.args.place - c.args.self.streams - 3 * c.args.self.streams < c.args.self.streams = c.if-place-streams-3.true in
    behind _ _ c.args.self.streams _ _ (each_length Enter c.args.self.streams) g0 (behind _ _ (3 * c.args.self.streams) _ _ (commands_length c.args.self.streams) g1 (among _ _ c.args.self.streams _ _ (each_length Report c.args.self.streams) h (each_at Report c.args.self.streams (c.args.place - c.args.self.streams - 3 * c.args.self.streams) h)))

pub returns-then-place-self : goal.returns-then-place-self
returns-then-place-self c =
    let g0 : c.args.self.streams ≤ c.args.place = c.if-place-streams.false in
    let g1 : (3 * c.args.self.streams) ≤ c.args.place - c.args.self.streams = c.if-place-streams-2.false in
    let g2 : c.args.self.streams ≤ c.args.place - c.args.self.streams - 3 * c.args.self.streams = c.if-place-streams-3.false in
    let h : c.args.place - c.args.self.streams - 3 * c.args.self.streams - c.args.self.streams < (2 * c.args.self.blocks) = c.if-place-self.true in
    behind _ _ c.args.self.streams _ _ (each_length Enter c.args.self.streams) g0 (behind _ _ (3 * c.args.self.streams) _ _ (commands_length c.args.self.streams) g1 (behind _ _ c.args.self.streams _ _ (each_length Report c.args.self.streams) g2 (among _ _ (2 * c.args.self.blocks) _ _ (feeds_length c.args.self.blocks) h (feeds_at c.args.self.blocks (c.args.place - c.args.self.streams - 3 * c.args.self.streams - c.args.self.streams) h ∙ feed-of ((c.args.place - c.args.self.streams - 3 * c.args.self.streams - c.args.self.streams) / 2) ((c.args.place - c.args.self.streams - 3 * c.args.self.streams - c.args.self.streams) % 2) (omega arith)))))

pub returns-then-place-nodes : goal.returns-then-place-nodes
returns-then-place-nodes c =
    let g0 : c.args.self.streams ≤ c.args.place = c.if-place-streams.false in
    let g1 : (3 * c.args.self.streams) ≤ c.args.place - c.args.self.streams = c.if-place-streams-2.false in
    let g2 : c.args.self.streams ≤ c.args.place - c.args.self.streams - 3 * c.args.self.streams = c.if-place-streams-3.false in
    let g3 : (2 * c.args.self.blocks) ≤ c.args.place - c.args.self.streams - 3 * c.args.self.streams - c.args.self.streams = c.if-place-self.false in
    let h : c.args.place - c.args.self.streams - 3 * c.args.self.streams - c.args.self.streams - 2 * c.args.self.blocks < c.args.self.nodes = c.if-place-nodes.true in
    behind _ _ c.args.self.streams _ _ (each_length Enter c.args.self.streams) g0 (behind _ _ (3 * c.args.self.streams) _ _ (commands_length c.args.self.streams) g1 (behind _ _ c.args.self.streams _ _ (each_length Report c.args.self.streams) g2 (behind _ _ (2 * c.args.self.blocks) _ _ (feeds_length c.args.self.blocks) g3 (among _ _ c.args.self.nodes _ _ (each_length Reply c.args.self.nodes) h (each_at Reply c.args.self.nodes (c.args.place - c.args.self.streams - 3 * c.args.self.streams - c.args.self.streams - 2 * c.args.self.blocks) h)))))

pub returns-then-place-nodes-2 : goal.returns-then-place-nodes-2
returns-then-place-nodes-2 c =
    let g0 : c.args.self.streams ≤ c.args.place = c.if-place-streams.false in
    let g1 : (3 * c.args.self.streams) ≤ c.args.place - c.args.self.streams = c.if-place-streams-2.false in
    let g2 : c.args.self.streams ≤ c.args.place - c.args.self.streams - 3 * c.args.self.streams = c.if-place-streams-3.false in
    let g3 : (2 * c.args.self.blocks) ≤ c.args.place - c.args.self.streams - 3 * c.args.self.streams - c.args.self.streams = c.if-place-self.false in
    let g4 : c.args.self.nodes ≤ c.args.place - c.args.self.streams - 3 * c.args.self.streams - c.args.self.streams - 2 * c.args.self.blocks = c.if-place-nodes.false in
    let h : c.args.place - c.args.self.streams - 3 * c.args.self.streams - c.args.self.streams - 2 * c.args.self.blocks - c.args.self.nodes < c.args.self.nodes = c.if-place-nodes-2.true in
    behind _ _ c.args.self.streams _ _ (each_length Enter c.args.self.streams) g0 (behind _ _ (3 * c.args.self.streams) _ _ (commands_length c.args.self.streams) g1 (behind _ _ c.args.self.streams _ _ (each_length Report c.args.self.streams) g2 (behind _ _ (2 * c.args.self.blocks) _ _ (feeds_length c.args.self.blocks) g3 (behind _ _ c.args.self.nodes _ _ (each_length Reply c.args.self.nodes) g4 (among _ _ c.args.self.nodes _ _ (each_length Ask c.args.self.nodes) h (each_at Ask c.args.self.nodes (c.args.place - c.args.self.streams - 3 * c.args.self.streams - c.args.self.streams - 2 * c.args.self.blocks - c.args.self.nodes) h))))))

pub returns-then-place-queues : goal.returns-then-place-queues
returns-then-place-queues c =
    let g0 : c.args.self.streams ≤ c.args.place = c.if-place-streams.false in
    let g1 : (3 * c.args.self.streams) ≤ c.args.place - c.args.self.streams = c.if-place-streams-2.false in
    let g2 : c.args.self.streams ≤ c.args.place - c.args.self.streams - 3 * c.args.self.streams = c.if-place-streams-3.false in
    let g3 : (2 * c.args.self.blocks) ≤ c.args.place - c.args.self.streams - 3 * c.args.self.streams - c.args.self.streams = c.if-place-self.false in
    let g4 : c.args.self.nodes ≤ c.args.place - c.args.self.streams - 3 * c.args.self.streams - c.args.self.streams - 2 * c.args.self.blocks = c.if-place-nodes.false in
    let g5 : c.args.self.nodes ≤ c.args.place - c.args.self.streams - 3 * c.args.self.streams - c.args.self.streams - 2 * c.args.self.blocks - c.args.self.nodes = c.if-place-nodes-2.false in
    let h : c.args.place - c.args.self.streams - 3 * c.args.self.streams - c.args.self.streams - 2 * c.args.self.blocks - c.args.self.nodes - c.args.self.nodes < c.args.self.queues = c.if-place-queues.true in
    behind _ _ c.args.self.streams _ _ (each_length Enter c.args.self.streams) g0 (behind _ _ (3 * c.args.self.streams) _ _ (commands_length c.args.self.streams) g1 (behind _ _ c.args.self.streams _ _ (each_length Report c.args.self.streams) g2 (behind _ _ (2 * c.args.self.blocks) _ _ (feeds_length c.args.self.blocks) g3 (behind _ _ c.args.self.nodes _ _ (each_length Reply c.args.self.nodes) g4 (behind _ _ c.args.self.nodes _ _ (each_length Ask c.args.self.nodes) g5 (among _ _ c.args.self.queues _ _ (each_length Lose c.args.self.queues) h (each_at Lose c.args.self.queues (c.args.place - c.args.self.streams - 3 * c.args.self.streams - c.args.self.streams - 2 * c.args.self.blocks - c.args.self.nodes - c.args.self.nodes) h)))))))

pub returns : goal.returns
returns c =
    let g0 : c.args.self.streams ≤ c.args.place = c.if-place-streams.false in
    let g1 : (3 * c.args.self.streams) ≤ c.args.place - c.args.self.streams = c.if-place-streams-2.false in
    let g2 : c.args.self.streams ≤ c.args.place - c.args.self.streams - 3 * c.args.self.streams = c.if-place-streams-3.false in
    let g3 : (2 * c.args.self.blocks) ≤ c.args.place - c.args.self.streams - 3 * c.args.self.streams - c.args.self.streams = c.if-place-self.false in
    let g4 : c.args.self.nodes ≤ c.args.place - c.args.self.streams - 3 * c.args.self.streams - c.args.self.streams - 2 * c.args.self.blocks = c.if-place-nodes.false in
    let g5 : c.args.self.nodes ≤ c.args.place - c.args.self.streams - 3 * c.args.self.streams - c.args.self.streams - 2 * c.args.self.blocks - c.args.self.nodes = c.if-place-nodes-2.false in
    let g6 : c.args.self.queues ≤ c.args.place - c.args.self.streams - 3 * c.args.self.streams - c.args.self.streams - 2 * c.args.self.blocks - c.args.self.nodes - c.args.self.nodes = c.if-place-queues.false in
    let h : c.args.place - c.args.self.streams - 3 * c.args.self.streams - c.args.self.streams - 2 * c.args.self.blocks - c.args.self.nodes - c.args.self.nodes - c.args.self.queues < c.args.self.queues = omega arith in
    behind _ _ c.args.self.streams _ _ (each_length Enter c.args.self.streams) g0 (behind _ _ (3 * c.args.self.streams) _ _ (commands_length c.args.self.streams) g1 (behind _ _ c.args.self.streams _ _ (each_length Report c.args.self.streams) g2 (behind _ _ (2 * c.args.self.blocks) _ _ (feeds_length c.args.self.blocks) g3 (behind _ _ c.args.self.nodes _ _ (each_length Reply c.args.self.nodes) g4 (behind _ _ c.args.self.nodes _ _ (each_length Ask c.args.self.nodes) g5 (behind _ _ c.args.self.queues _ _ (each_length Lose c.args.self.queues) g6 (each_at Hop c.args.self.queues (c.args.place - c.args.self.streams - 3 * c.args.self.streams - c.args.self.streams - 2 * c.args.self.blocks - c.args.self.nodes - c.args.self.nodes - c.args.self.queues) h)))))))
