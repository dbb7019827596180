use Rattle.std.proofs.Common.{subst, sym}
use Rattle.net_machine.specs.State.{State}
use Rattle.stream_rounds.specs.Between.{IsGoing}
use Rattle.stream_rounds.specs.Inside.{ends_of}
use Rattle.stream_rounds.specs.Rounds.{IsRound}
use Rattle.stream_rounds.specs.Sides.{Ends}
use Rattle.stream_rounds.specs.Wiring.{IsWired}
use Rattle.stream_rounds.proofs.Rounded.{met-going, turned-round}
use Rattle.stream_rounds.proofs.pump.Pump.round.Goals as goal

pub meet_sources-requires-clause-lanes : goal.meet_sources-requires-clause-lanes
meet_sources-requires-clause-lanes g c = λ i x y lt.
    ((subst (λ (e : Ends). IsWired c.args.net.now.present.plan e.sources e.intakes e.outlets e.drains) (sym c.self.view_is) c.requires.wired).source i x y lt).lane

pub meet_drains-requires-clause-lanes : goal.meet_drains-requires-clause-lanes
meet_drains-requires-clause-lanes g c = λ i x y lt.
    ((subst (λ (e : Ends). IsWired c.args.net.now.present.plan e.sources e.intakes e.outlets e.drains) (sym c.self.view_is) c.requires.wired).drain i x y lt).lane

pub work_all-requires : goal.work_all-requires
work_all-requires g c =
    let wired = subst (λ (e : Ends). IsWired c.args.net.now.present.plan e.sources e.intakes e.outlets e.drains) (sym c.self.view_is) c.requires.wired in
    let going = subst (λ (e : Ends). IsGoing c.requires.going.0 c.args.net.now (g.B.RegisterSlots.slots c.args.banks.now) e.intakes e.outlets)
    (sym c.self.view_is) c.requires.going.1 in (
      search,
      (
        search,
        (
          search,
          (
            c.requires.going.0,
            met-going c.requires.going.0 c.args.net.now (g.B.RegisterSlots.slots c.args.banks.now) (ends_of c.self.inside)
                c.meet_sources.new.sources.items c.meet_sources.new.intakes.items c.meet_drains.new.outlets.items c.meet_drains.new.drains.items
                wired c.meet_sources.ensures c.meet_drains.ensures going,
          ),
        ),
      ),
    )

pub returns : goal.returns
returns g c =
    let met : Ends = record {
      sources = c.meet_sources.new.sources.items;
      intakes = c.meet_sources.new.intakes.items;
      outlets = c.meet_drains.new.outlets.items;
      drains = c.meet_drains.new.drains.items;
    } in
    let last : Ends = record {
      sources = c.work_all.new.edges.sources.items;
      intakes = c.work_all.new.fabric.intakes.items;
      outlets = c.work_all.new.fabric.outlets.items;
      drains = c.work_all.new.edges.drains.items;
    } in
    let before = g.B.RegisterSlots.slots c.args.banks.now in
    let banks = g.B.RegisterSlots.slots c.work_all.new.banks in
    subst (λ (first : Ends). IsWired c.args.net.now.present.plan first.sources first.intakes first.outlets first.drains
    → ((opened : State) × IsGoing opened c.args.net.now before first.intakes first.outlets)
    → IsRound c.args.net.now c.work_all.new.net before banks first last c.moved.result) c.self.view_is
    (λ wired start. turned-round c.args.net.now c.work_all.new.net before banks (ends_of c.self.inside) met last c.in_ok-stepped.stepped c.moved.result
    c.work_all.new.fabric.ended wired start c.meet_sources.ensures c.meet_drains.ensures c.work_all.ensures.fills c.work_all.ensures.empties
    c.work_all.ensures.turned c.in_ok-stepped.was c.in_ok-ended.ensures c.moved.ensures)
    c.requires.wired c.requires.going
