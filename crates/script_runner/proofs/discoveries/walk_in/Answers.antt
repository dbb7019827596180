use Rattle.std.proofs.Common.{◌∙◌, sym, subst}
use Rattle.std.specs.Prelude.{IsSome}
use Rattle.net_machine.specs.Nodes.{host_with}
use Rattle.net_present.specs.Present.{Present}
use Rattle.script_runner.proofs.Walking.{some-host, walk-refused, walk-told}
use Rattle.script_runner.proofs.discoveries.walk_in.Goals as goal

pub discover-requires-clause-host : goal.discover-requires-clause-host
discover-requires-clause-host g c =
    subst (λ (p : Present). IsSome (host_with p.tree c.args.host)) (sym c.in_ok-name.ensures.present)
    (some-host c.args.net.now.present.tree c.args.host c.has_host.result c.has_host.ensures c.if-not-has_host.false)

pub returns-then-not-has_host : goal.returns-then-not-has_host
returns-then-not-has_host g c =
    walk-refused c.args.net.now (g.B.RegisterSlots.slots c.args.banks.now) c.args.host c.args.lose.now c.requires
    (sym c.has_host.ensures ∙ c.if-not-has_host.true)

pub returns : goal.returns
returns g c =
    walk-told c.args.net.now c.name.new.net c.discover.new.net (g.B.RegisterSlots.slots c.args.banks.now) (g.B.RegisterSlots.slots c.discover.new.banks)
    c.args.host c.args.lose.now c.in_ok-found.found c.in_ok-name.ensures.present c.in_ok-name.ensures.machine
    c.in_ok-found.ensures.walked c.in_ok-found.ensures.found c.in_ok-found.ensures.settled c.in_ok-found.ensures.tree
