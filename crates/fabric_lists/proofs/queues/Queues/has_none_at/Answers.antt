use Rattle.std.proofs.Common.{◌≡◌, ◌<◌, List, [], length, sym, ◌∙◌, ap, subst, get_or}
use Rattle.std.specs.Prelude.{map}
use Rattle.net_machine.specs.Front.{Queued}
use Rattle.fabric_lists.specs.QueuesView.{QueuesSeen, entries_of, has_none}
use Rattle.fabric_lists.proofs.PartLemmas.{read-at}
use Rattle.fabric_lists.proofs.queues.Queues.has_none_at.Goals as goal

pub returns : goal.returns
returns c =
    let parts = c.self.inside.queues.items in
    let seen : map entries_of parts ≡ c.args.self.now.entries = ap (λ (v : QueuesSeen). v.entries) c.self.view_is in
    let there : c.args.q < length (map entries_of parts) =
    subst (λ (es : List (List Queued)). c.args.q < length es) (sym seen) c.requires in
    c.has_none_of.ensures
    ∙ ap (has_none c.args.plan.now) (read-at entries_of parts c.args.q c.index.result.now [] there c.index.ensures)
    ∙ ap (λ (es : List (List Queued)). has_none c.args.plan.now (get_or es c.args.q [])) seen
