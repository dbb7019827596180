use Rattle.std.proofs.Common.{subst, sym}
use Rattle.std.specs.Prelude.{Err, IsSome}
use Rattle.found_nodes.specs.Found.{AreFound}
use Rattle.net_machine.specs.Nodes.{host_with}
use Rattle.net_present.specs.Present.{Present}
use Rattle.route_writes.specs.Routing.{IsWriting}
use Rattle.route_writes.specs.declared.fault.RouteFault.{RouteFault}
use Rattle.script_runner.proofs.Routing.{desk_of, free-host, route-broken, route-refused, route-told}
use Rattle.script_runner.proofs.routes.write_in.Goals as goal

pub returns-in-Some : goal.returns-in-Some
returns-in-Some g c =
    let it = c.args.it in
    route-refused c.args.net.now (g.B.RegisterSlots.slots c.args.banks.now) it.found.now.nodes it.host it.from it.to it.lose.now c.in-Some.refusal
    c.requires.settled c.in-Some.ensures

pub write_route-requires-clause-host : goal.write_route-requires-clause-host
write_route-requires-clause-host g c =
    let it = c.args.it in
    subst (λ (p : Present). IsSome (host_with p.tree it.host)) (sym c.in_ok-name.ensures.present)
    (free-host c.args.net.now.present.tree it.found.now.nodes it.host it.from it.to c.in_default.ensures)

pub write_route-requires-clause-found : goal.write_route-requires-clause-found
write_route-requires-clause-found g c =
    subst (λ (p : Present). AreFound p.tree c.args.it.found.now.nodes) (sym c.in_ok-name.ensures.present) c.requires.fits.found

pub returns-in-Ok : goal.returns-in-Ok
returns-in-Ok g c =
    let it = c.args.it in
    route-told c.args.net.now c.name.new.net c.write_route.new.net (g.B.RegisterSlots.slots c.args.banks.now)
    (g.B.RegisterSlots.slots c.write_route.new.banks) it.found.now.nodes it.host it.from it.to it.lose.now c.in-Ok.count
    c.in_ok-name.ensures.present c.in_ok-name.ensures.machine c.in_default.ensures c.in-Ok.ensures.wrote.1

pub returns-in-Err-Lost : goal.returns-in-Err-Lost
returns-in-Err-Lost g c =
    let it = c.args.it in
    let slots = g.B.RegisterSlots.slots c.args.banks.now in
    let left = g.B.RegisterSlots.slots c.write_route.new.banks in
    let done = subst (λ (fault : RouteFault). IsWriting it.found.now.nodes it.host it.from it.to (desk_of c.name.new.net slots) (Err fault)
    (desk_of c.write_route.new.net left)) c.in-Err-Lost.field-0-is c.in-Err-Lost.ensures.wrote in
    route-broken c.args.net.now c.name.new.net c.write_route.new.net slots left it.found.now.nodes it.host it.from it.to it.lose.now
    c.in-Err-Lost.instance c.in_ok-name.ensures.present c.in_ok-name.ensures.machine c.in_default.ensures done.1
