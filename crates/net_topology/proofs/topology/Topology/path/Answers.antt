use Rattle.std.proofs.Common.{rules, ◌≡◌, sym, subst}
use Rattle.net_topology.specs.Links.{IsWay}
use Rattle.net_topology.specs.Mapped.{IsMapped}
use Rattle.net_topology.specs.Parts.{way_of}
use Rattle.net_topology.proofs.CheckLemmas.{way_of_is_way}
use Rattle.net_topology.proofs.topology.Topology.path.Goals as goal

pub returns-clause-way : goal.returns-clause-way
returns-clause-way c =
    let value : c.loop-d.way ≡ way_of c.args.self.now.links c.args.a c.args.b = search rules in
    let mapped : IsMapped c.args.self.now c.self.inside.ups = search rules in
    subst (IsWay c.args.self.now.links c.args.a c.args.b) (sym value) (way_of_is_way c.args.self.now c.args.a c.args.b mapped.checked.tree c.requires.a c.requires.b)
