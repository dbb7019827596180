use Rattle.std.proofs.Common.{List, Bool, refl, subst}
use Rattle.std.specs.Prelude.{map, MatchOption}
use Rattle.fabric_flags.specs.Set.{IsNext, NoneFrom, flag_at}
use Rattle.fabric_lists.specs.QueuesView.{QueuesSeen, entries_of, holds, is_held}
use Rattle.fabric_lists.proofs.HeldLemmas.{next_is}
use Rattle.fabric_lists.proofs.queues.Queues.next_held.Goals as goal

pub returns : goal.returns
returns c =
    let entries = map entries_of c.self.inside.queues.items in
    subst (λ (v : QueuesSeen). MatchOption c.next_from.result (NoneFrom (holds v.entries) c.args.q) (IsNext (holds v.entries) c.args.q)) c.self.view_is
    (next_is is_held refl entries c.args.q c.next_from.result
    (subst (λ (flags : List Bool). MatchOption c.next_from.result (NoneFrom (flag_at flags) c.args.q) (IsNext (flag_at flags) c.args.q))
    c.self.invariant.held c.next_from.ensures))
