use Rattle.script_runner.proofs.Routing.{routable, route-done}
use Rattle.script_runner.proofs.routes.route.Goals as goal

pub converse-requires : goal.converse-requires
converse-requires g c =
    routable c.args.world.now.setup.tree c.in_ok-found.found.nodes c.args.from c.args.to c.requires c.in_ok-found.ensures.sound

pub returns : goal.returns
returns g c =
    route-done c.args.world.now c.converse.new.world (g.B.RegisterSlots.slots c.args.banks.now) (g.B.RegisterSlots.slots c.converse.new.banks) c.args.host
    c.args.from c.args.to c.args.lose.now c.in_ok-found.found.nodes c.converse.result c.in_ok-found.ensures.nodes c.converse.ensures.talks
