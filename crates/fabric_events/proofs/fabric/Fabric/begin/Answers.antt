use Rattle.std.proofs.Common.{◌≡◌, ◌≤◌, ◌∙◌, sym, ap, subst, length}
use Rattle.std.specs.Prelude.{map}
use Rattle.net_machine.specs.declared.plan.RunPlan.{RunPlan}
use Rattle.fabric_lists.specs.Opened.{feeding_in, txs_in}
use Rattle.fabric_events.specs.Fabrics.{item_now, item_planned, kind_now, kind_planned}
use Rattle.fabric_events.proofs.BegunLemmas.{unfed-items, unfed-kinds}
use Rattle.fabric_events.proofs.fabric.Fabric.begin.Goals as goal

pub returns-clause-sound : goal.returns-clause-sound
returns-clause-sound c =
    let plan = c.args.plan.now in
    let copied : plan ≡ c.in_ok-copy.copy = sym c.in_ok-copy.ensures in
    record {
      queues = c.requires.sound.queues;
      room = c.requires.sound.room;
      shapes = c.requires.sound.shapes;
      working = c.requires.sound.working;
      plans = c.in_ok-streams.ensures.plans ∙ ap (λ (p : RunPlan). p.streams) copied;
      txs = c.in_ok-streams.ensures.txs ∙ ap txs_in copied;
      kinds = ap (map kind_now) c.in_ok-blocks.ensures ∙ unfed-kinds plan ∙ ap (λ (p : RunPlan). map kind_planned p.blocks) copied;
      items = ap (map item_now) c.in_ok-blocks.ensures ∙ unfed-items plan ∙ ap (λ (p : RunPlan). map item_planned p.blocks) copied;
      feeding = c.in_ok-feeding.ensures ∙ ap feeding_in copied;
      few_streams = subst (λ (p : RunPlan). length p.streams ≤ 16) copied c.requires.few_streams;
      few_blocks = subst (λ (p : RunPlan). length p.blocks ≤ 32) copied c.requires.few_blocks;
    }
