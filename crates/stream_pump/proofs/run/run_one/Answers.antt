use Rattle.std.proofs.Common.{◌≡◌, List, sym, subst}
use Rattle.std.specs.List.{AllByRecursion}
use Rattle.net_machine.specs.declared.event.Event.{Event}
use Rattle.net_machine.specs.Begin.{begun}
use Rattle.net_machine.specs.Moves.{after_journal}
use Rattle.net_machine.specs.State.{State}
use Rattle.net_runs.specs.Runs.{LosesNothing}
use Rattle.fabric_net.specs.Standing.{IsResting, StandsFor}
use Rattle.run_books.specs.Books.{IsChosenBook}
use Rattle.run_books.specs.declared.book.RunBook.{RunBook}
use Rattle.stream_pump.specs.Drains.{AreTaken}
use Rattle.stream_pump.specs.PlainBooks.{IsPlainBook}
use Rattle.stream_pump.specs.Telling.{TellsNow}
use Rattle.stream_pump.proofs.Ending.{can-run}
use Rattle.stream_pump.proofs.Runs.{book-of, both-ok, ok-unit, on-ok, opens, plain-then, planned-in, rests-then}
use Rattle.stream_pump.proofs.run.run_one.Goals as goal

pub run_events-requires-clause-state : goal.run_events-requires-clause-state
run_events-requires-clause-state g c =
    let banks = g.B.RegisterSlots.slots c.args.banks.now in
    let first = c.stands.ensures banks in
    let w = first.0 in (
      begun c.args.plan.now w,
      opens c.args.plan.now c.args.net.now.present c.begin.new.self.present w c.len.result banks c.in_ok-drains.drains.items
          c.in_ok-begin.ensures.present (c.in_ok-begin.ensures.machine w first.1) first.2 c.in_ok-drains.ensures,
    )

pub book-requires-clause-planned : goal.book-requires-clause-planned
book-requires-clause-planned g c =
    let first = c.stands.ensures (g.B.RegisterSlots.slots c.args.banks.now) in
    planned-in c.begin.new.self.present c.args.plan.now first.0 (c.in_ok-begin.ensures.machine first.0 first.1)

pub returns-clause-book : goal.returns-clause-book
returns-clause-book g c =
    let plan = c.args.plan.now in
    let net = c.run_events.new.net in
    let banks = g.B.RegisterSlots.slots c.args.banks.now in
    let after = g.B.RegisterSlots.slots c.run_events.new.banks in
    let drains = c.run_events.new.drains.items in
    both-ok (λ (book : RunBook). book.journal ≡ net.journal)
    (λ (book : RunBook). (v : State) → StandsFor net.present v → AreTaken net.present v drains → TellsNow v book)
    (λ (book : RunBook). (w : State) → StandsFor c.args.net.now.present w → w.banks ≡ banks → IsChosenBook c.args.seed.0 (begun plan w) book)
    c.book.result c.book.ensures.journal c.book.ensures.tells
    (λ book journal tells w stands same.
    book-of c.args.seed.0 plan w net after drains book (can-run plan c.args.net.now.present w stands c.requires.rest c.requires.can)
    (c.in_ok-run_events.ensures.run (begun plan w)
    (opens plan c.args.net.now.present c.begin.new.self.present w c.len.result banks c.in_ok-drains.drains.items c.in_ok-begin.ensures.present
    (c.in_ok-begin.ensures.machine w stands) same c.in_ok-drains.ensures)) journal tells)

pub returns-clause-net : goal.returns-clause-net
returns-clause-net g c =
    let plan = c.args.plan.now in
    let net = c.run_events.new.net in
    let banks = g.B.RegisterSlots.slots c.args.banks.now in
    both-ok (λ (book : RunBook). book.journal ≡ net.journal) (λ (book : RunBook). Unit {0})
    (λ (book : RunBook). (w : State) → StandsFor c.args.net.now.present w → w.banks ≡ banks → StandsFor net.present (after_journal (begun plan w) book.journal))
    c.book.result c.book.ensures.journal (ok-unit c.book.result)
    (λ book journal _ w stands same.
    subst (λ (js : List Event). StandsFor net.present (after_journal (begun plan w) js)) (sym journal)
    (c.in_ok-run_events.ensures.run (begun plan w)
    (opens plan c.args.net.now.present c.begin.new.self.present w c.len.result banks c.in_ok-drains.drains.items c.in_ok-begin.ensures.present
    (c.in_ok-begin.ensures.machine w stands) same c.in_ok-drains.ensures)).here.stands)

pub returns-clause-banks : goal.returns-clause-banks
returns-clause-banks g c =
    let plan = c.args.plan.now in
    let net = c.run_events.new.net in
    let banks = g.B.RegisterSlots.slots c.args.banks.now in
    let after = g.B.RegisterSlots.slots c.run_events.new.banks in
    both-ok (λ (book : RunBook). book.journal ≡ net.journal) (λ (book : RunBook). Unit {0})
    (λ (book : RunBook). (w : State) → StandsFor c.args.net.now.present w → w.banks ≡ banks → (after_journal (begun plan w) book.journal).banks ≡ after)
    c.book.result c.book.ensures.journal (ok-unit c.book.result)
    (λ book journal _ w stands same.
    subst (λ (js : List Event). (after_journal (begun plan w) js).banks ≡ after) (sym journal)
    (c.in_ok-run_events.ensures.run (begun plan w)
    (opens plan c.args.net.now.present c.begin.new.self.present w c.len.result banks c.in_ok-drains.drains.items c.in_ok-begin.ensures.present
    (c.in_ok-begin.ensures.machine w stands) same c.in_ok-drains.ensures)).here.slots)

pub returns-clause-rest : goal.returns-clause-rest
returns-clause-rest g c =
    let plan = c.args.plan.now in
    let net = c.run_events.new.net in
    let banks = g.B.RegisterSlots.slots c.args.banks.now in
    let after = g.B.RegisterSlots.slots c.run_events.new.banks in
    let first = c.stands.ensures banks in
    let w = first.0 in
    on-ok c.book.result (IsResting net.present)
    (rests-then c.args.seed.0 plan w net after c.run_events.new.drains.items (can-run plan c.args.net.now.present w first.1 c.requires.rest c.requires.can)
    (c.in_ok-run_events.ensures.run (begun plan w)
    (opens plan c.args.net.now.present c.begin.new.self.present w c.len.result banks c.in_ok-drains.drains.items c.in_ok-begin.ensures.present
    (c.in_ok-begin.ensures.machine w first.1) first.2 c.in_ok-drains.ensures)))

pub returns-clause-plain : goal.returns-clause-plain
returns-clause-plain g c =
    let plan = c.args.plan.now in
    let net = c.run_events.new.net in
    let banks = g.B.RegisterSlots.slots c.args.banks.now in
    let after = g.B.RegisterSlots.slots c.run_events.new.banks in
    let drains = c.run_events.new.drains.items in
    let first = c.stands.ensures banks in
    let w = first.0 in
    let can = can-run plan c.args.net.now.present w first.1 c.requires.rest c.requires.can in
    both-ok (λ (book : RunBook). book.journal ≡ net.journal)
    (λ (book : RunBook). (v : State) → StandsFor net.present v → AreTaken net.present v drains → TellsNow v book)
    (λ (book : RunBook). AllByRecursion LosesNothing book.journal → IsPlainBook plan book)
    c.book.result c.book.ensures.journal c.book.ensures.tells
    (λ book journal tells.
    plain-then c.args.seed.0 plan w book can
    (book-of c.args.seed.0 plan w net after drains book can
    (c.in_ok-run_events.ensures.run (begun plan w)
    (opens plan c.args.net.now.present c.begin.new.self.present w c.len.result banks c.in_ok-drains.drains.items c.in_ok-begin.ensures.present
    (c.in_ok-begin.ensures.machine w first.1) first.2 c.in_ok-drains.ensures)) journal tells))
