use Rattle.std.proofs.Common.{◌≡◌, refl, sym, ◌∙◌, false}
use Rattle.topology_walk.specs.Nodes.{is_arrival}
use Rattle.topology_walk.specs.Walks.{Desk, LeadsBehind}
use Rattle.topology_walk.proofs.Adding.{on-ok, walks-arrival, walks-further, walks-one}
use Rattle.topology_walk.proofs.Asking.{tree-of}
use Rattle.topology_walk.proofs.walk.look_behind.Goals as goal

pub returns-then-came_by-clause-walks : goal.returns-then-came_by-clause-walks
returns-then-came_by-clause-walks g c =
    walks-arrival c.args.net.now.present.tree c.args.source.epid c.args.source.node
    (record { walk = c.args.walk.now; net = c.args.net.now; banks = g.B.RegisterSlots.slots c.args.banks.now })
    c.args.node c.args.port c.requires.known c.requires.settled refl (sym c.came_by.ensures ∙ c.if-came_by.true)

pub returns-clause-walks : goal.returns-clause-walks
returns-clause-walks g c =
    let old = g.B.RegisterSlots.slots c.args.banks.now in
    let left = g.B.RegisterSlots.slots c.probe.new.banks in
    let some = c.stands.ensures old in
    let p = c.args.net.now.present in
    let x = c.args.source.node in
    let src = c.args.source.epid in
    let f = c.args.node in
    let port = c.args.port in
    let s : Desk = record { walk = c.args.walk.now; net = c.args.net.now; banks = old } in
    let t : Desk = record { walk = c.add.new.self; net = c.probe.new.net; banks = left } in
    let further : is_arrival f port ≡ false = sym c.came_by.ensures ∙ c.if-came_by.false in
    let leads : LeadsBehind p.tree x f port c.in_ok-ports.ports = record {
      trail = c.args.trail.now;
      known = c.requires.trail;
      along = c.in_ok-ports.ensures;
      there = c.requires.there;
      other = further;
    } in
    on-ok c.add.result _ _ (λ made. walks-further p.tree src x s t f port further
    (walks-one p.tree (tree-of p some.0 some.1) src x c.args.walk.now c.add.new.self c.args.net.now c.probe.new.net old left f port c.in_ok-ports.ports c.in_ok-behind.behind
    c.requires.known c.requires.listed leads c.in_ok-behind.ensures made)) c.add.ensures
