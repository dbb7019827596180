use Rattle.std.proofs.Common.{◌≡◌, ◌<◌, true, Some, slice_get, subst, sym}
use Rattle.std.proofs.lemmas.List.Elements.{All-push}
use Rattle.fabric_parts.specs.Ready.{IsShort, SourceSeen, most_offered}
use Rattle.fabric_parts.proofs.SourceLemmas.{few-more, offer-next, offer-view}
use Rattle.fabric_parts.proofs.source.Source.offer.Goals as goal

pub invariant_of-self : goal.invariant_of-self
invariant_of-self c =
    let tx = subst (λ (v : SourceSeen). v.is_tx ≡ true) (sym c.self.view_is) c.requires.tx in
    let next = subst (λ (v : SourceSeen). slice_get v.ready v.offered ≡ Some c.args.packet) (sym c.self.view_is) c.requires.next in
    let more = offer-next c.self.inside.tx c.self.inside.made c.self.inside.front.items c.args.packet tx c.self.invariant.making next in
    record {
      short = rw c.push_back_reserved.ensures.items (All-push IsShort c.self.inside.front.items c.args.packet c.self.invariant.short more.short);
      making = more.making;
      room = rw c.push_back_reserved.ensures.capacity c.self.invariant.room;
      few = few-more c.self.inside.tx c.self.inside.front.items _ c.args.packet tx c.push_back_reserved.ensures.items
          (subst (λ (v : SourceSeen). v.offered < most_offered) (sym c.self.view_is) c.requires.few);
    }

pub returns : goal.returns
returns c =
    let tx = subst (λ (v : SourceSeen). v.is_tx ≡ true) (sym c.self.view_is) c.requires.tx in
    let next = subst (λ (v : SourceSeen). slice_get v.ready v.offered ≡ Some c.args.packet) (sym c.self.view_is) c.requires.next in
    let more = offer-next c.self.inside.tx c.self.inside.made c.self.inside.front.items c.args.packet tx c.self.invariant.making next in
    rw (← c.self.view_is)
    (offer-view c.self.inside.tx c.self.inside.made c.self.inside.front.items _ c.args.packet tx c.push_back_reserved.ensures.items more.list)
