use Rattle.std.proofs.Common.{arith}
use Rattle.fabric_flags.proofs.FlagLemmas.{count-last, count-none, nth-first, nth-next}
use Rattle.fabric_flags.proofs.flags.Flags.nth.Goals as goal

pub returns-in-None : goal.returns-in-None
returns-in-None c = omega (arith, count-none c.args.self.now c.in-None.ensures)

pub loop-init : goal.loop-init
loop-init c = nth-first c.args.self.now c.in-Some.first c.in-Some.ensures

pub returns-in-None-next_from : goal.returns-in-None-next_from
returns-in-None-next_from c =
    omega (arith, count-last c.args.self.now c.loop.counter c.loop.at c.loop.invariant c.in-None-next_from.ensures, c.loop-test.true)

pub loop-preserved : goal.loop-preserved
loop-preserved c =
    nth-next c.args.self.now c.loop.counter c.loop.at c.in-Some-next_from.next c.loop.invariant c.in-Some-next_from.ensures
