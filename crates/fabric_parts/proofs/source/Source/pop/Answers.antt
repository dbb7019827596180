use Rattle.std.proofs.lemmas.List.Elements.{All-drop}
use Rattle.fabric_parts.specs.Ready.{IsShort}
use Rattle.fabric_parts.proofs.SourceLemmas.{few-less}
use Rattle.fabric_parts.proofs.source.Source.pop.Goals as goal

pub invariant_of-self : goal.invariant_of-self
invariant_of-self c = record {
  short = rw c.pop_front.ensures.rest (All-drop IsShort 1 c.self.inside.front.items c.self.invariant.short);
  making = c.self.invariant.making;
  room = rw c.pop_front.ensures.capacity c.self.invariant.room;
  few = rw c.pop_front.ensures.rest (few-less c.self.inside.tx c.self.inside.front.items c.self.invariant.few);
}
