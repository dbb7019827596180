use Rattle.std.proofs.Common.{◌≡◌, ℕ, ◌+◌, ap, arith}
use Rattle.fabric_events.specs.Sizes.{first_feed}
use Rattle.fabric_events.proofs.EarlyLemmas.{feed_next, feeds_past}
use Rattle.fabric_events.proofs.fabric.Fabric.next_feed.Goals as goal

pub returns-in-Some-clause-still : goal.returns-in-Some-clause-still
returns-in-Some-clause-still c =
    let first = c.requires.from in
    let at : c.feeds-feeds.result ≡ first_feed c.args.sizes = c.feeds-feeds.ensures in
    feed_next c.args.self.now c.args.sizes c.requires.sound c.requires.sizes c.feeds-feeds.result c.args.k c.in-Some.b _ at (omega arith) c.in-Some.ensures
    (ap (λ (n : ℕ). c.feeds-feeds.result + n) c.max.ensures)

pub returns-in-None-clause-still : goal.returns-in-None-clause-still
returns-in-None-clause-still c =
    let first = c.requires.from in
    let at : c.feeds-feeds.result ≡ first_feed c.args.sizes = c.feeds-feeds.ensures in
    feeds_past c.args.self.now c.args.sizes c.requires.sound c.requires.sizes c.feeds-feeds.result c.args.k at (omega arith) c.in-None.ensures
