use Rattle.std.proofs.Common.{◌∙◌, sym}
use Rattle.fabric_events.proofs.fabric.Fabric.feed.Goals as goal

pub feed_from-requires-clause-first : goal.feed_from-requires-clause-first
feed_from-requires-clause-first c p first =
    c.requires.first c.in-Some.s p (sym c.input_of.ensures.value ∙ c.in-Some.is) first

pub feed_from-requires-clause-second : goal.feed_from-requires-clause-second
feed_from-requires-clause-second c p first =
    c.requires.second c.in-Some.s p (sym c.input_of.ensures.value ∙ c.in-Some.is) first
