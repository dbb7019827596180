use Rattle.std.proofs.Common.{[], ◌∷◌, ◌++◌, ◌<◌, length, ◌∙◌, sym, ap, subst, set}
use Rattle.net_present.specs.Onward.{entries_at}
use Rattle.fabric_lists.specs.QueuesView.{QueuesSeen}
use Rattle.fabric_lists.proofs.queues.Queues.enter.Goals as goal

pub invariant_of-self : goal.invariant_of-self
invariant_of-self c = record { rooms = c.self.invariant.rooms; held = c.self.invariant.held; marked = c.self.invariant.marked }

pub push-requires-clause-there : goal.push-requires-clause-there
push-requires-clause-there c = subst (λ (v : QueuesSeen). c.args.q < length v.entries) (sym c.self.view_is) c.requires.there

pub push-requires-clause-place : goal.push-requires-clause-place
push-requires-clause-place c =
    subst (λ (v : QueuesSeen). length (entries_at v.entries c.args.q) < v.room) (sym c.self.view_is) c.requires.place

pub returns-clause-entries : goal.returns-clause-entries
returns-clause-entries c =
    c.push.ensures.entries
    ∙ ap (λ (v : QueuesSeen). set v.entries c.args.q (entries_at v.entries c.args.q ++ c.args.entry ∷ [])) c.self.view_is

pub returns-clause-room : goal.returns-clause-room
returns-clause-room c = c.push.ensures.room ∙ ap (λ (v : QueuesSeen). v.room) c.self.view_is
