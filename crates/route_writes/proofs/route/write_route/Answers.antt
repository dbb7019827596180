use Rattle.std.proofs.Common.{◌≡◌, List, ◌++◌, refl, sym, ◌∙◌, ap, subst}
use Rattle.std.specs.Prelude.{Err}
use Rattle.found_nodes.specs.Found.{AreFound, HaveParents}
use Rattle.host_talk.specs.Settled.{IsSettledNow}
use Rattle.route_writes.specs.declared.fault.RouteFault.TheVariants.{Unknown}
use Rattle.route_writes.specs.declared.steps.Step.{Step}
use Rattle.route_writes.specs.Planned.{route_at}
use Rattle.route_writes.specs.Routing.{IsWriting}
use Rattle.route_writes.specs.Steps.{way_steps}
use Rattle.route_writes.specs.Writes.{Desk}
use Rattle.route_writes.proofs.Asking.{tree-of}
use Rattle.route_writes.proofs.Finding.{number-some, planned, unless-memory, writing-by, writing-none}
use Rattle.route_writes.proofs.route.write_route.Goals as goal
use Rattle.walk_books.specs.declared.found.FoundNode.{FoundNode}

pub returns-in-Err-clause-wrote : goal.returns-in-Err-clause-wrote
returns-in-Err-clause-wrote g c =
    let desk : Desk = record { net = c.args.net.now; banks = g.B.RegisterSlots.slots c.args.banks.now } in
    subst (λ (ns : List FoundNode). IsWriting ns c.args.host c.args.a c.args.b desk (Err (Unknown c.in-Err.epid)) desk) c.as_slice-nodes.ensures
    (writing-none c.as_slice-nodes.result.now c.args.host c.args.a c.args.b c.in-Err.epid desk c.in-Err.ensures)

pub add_way-requires-clause-parents : goal.add_way-requires-clause-parents
add_way-requires-clause-parents g c = subst (λ (ns : List FoundNode). HaveParents ns) (sym c.as_slice-nodes.ensures) c.requires.found.parents

pub add_way-requires-clause-from : goal.add_way-requires-clause-from
add_way-requires-clause-from g c =
    let some = c.stands.ensures (g.B.RegisterSlots.slots c.args.banks.now) in
    let tree = c.args.net.now.present.tree in
    let found = subst (λ (ns : List FoundNode). AreFound tree ns) (sym c.as_slice-nodes.ensures) c.requires.found in
    (number-some tree (tree-of c.args.net.now.present some.0 some.1) c.as_slice-nodes.result.now found c.args.a c.in-Ok.at.from c.in-Ok.ensures.2).listed

pub add_way-requires-clause-to : goal.add_way-requires-clause-to
add_way-requires-clause-to g c =
    let some = c.stands.ensures (g.B.RegisterSlots.slots c.args.banks.now) in
    let tree = c.args.net.now.present.tree in
    let found = subst (λ (ns : List FoundNode). AreFound tree ns) (sym c.as_slice-nodes.ensures) c.requires.found in
    (number-some tree (tree-of c.args.net.now.present some.0 some.1) c.as_slice-nodes.result.now found c.args.b c.in-Ok.at.to c.in-Ok.ensures.3).listed

pub write_along-requires-clause-planned : goal.write_along-requires-clause-planned
write_along-requires-clause-planned g c =
    let some = c.stands.ensures (g.B.RegisterSlots.slots c.args.banks.now) in
    let p = c.args.net.now.present in
    let is = tree-of p some.0 some.1 in
    let at = c.in-Ok.at in
    let found = subst (λ (ns : List FoundNode). AreFound p.tree ns) (sym c.as_slice-nodes.ensures) c.requires.found in
    planned p some.0 some.1 c.as_slice-nodes.result.now found c.args.host c.args.a c.args.b at.host at.from at.to c.requires.host c.requires.other
    c.in-Ok.ensures.1 c.in-Ok.ensures.2 c.in-Ok.ensures.3 c.as_slice.result.now
    (c.as_slice.ensures ∙ c.in_ok-add_way.ensures p.tree is found ∙ ap (λ (ss : List Step). ss ++ way_steps p.tree at.from at.to) c.new-steps.ensures)

pub returns-clause-wrote : goal.returns-clause-wrote
returns-clause-wrote g c =
    let old : Desk = record { net = c.args.net.now; banks = g.B.RegisterSlots.slots c.args.banks.now } in
    let new : Desk = record { net = c.write_along.new.net; banks = g.B.RegisterSlots.slots c.write_along.new.banks } in
    let some = c.stands.ensures (g.B.RegisterSlots.slots c.args.banks.now) in
    let tree = c.args.net.now.present.tree in
    let nodes = c.as_slice-nodes.result.now in
    let found = subst (λ (ns : List FoundNode). AreFound tree ns) (sym c.as_slice-nodes.ensures) c.requires.found in
    let host = number-some tree (tree-of c.args.net.now.present some.0 some.1) nodes found c.args.host c.in-Ok.at.host c.in-Ok.ensures.1 in
    subst (λ (ns : List FoundNode). IsWriting ns c.args.host c.args.a c.args.b old c.write_along.result new) c.as_slice-nodes.ensures
    (writing-by tree nodes c.args.host c.args.a c.args.b c.in-Ok.at.host old new c.write_along.result refl c.in-Ok.ensures.0 host.node c.write_along.ensures)

pub returns-clause-settled : goal.returns-clause-settled
returns-clause-settled g c =
    let old : Desk = record { net = c.args.net.now; banks = g.B.RegisterSlots.slots c.args.banks.now } in
    let new : Desk = record { net = c.write_along.new.net; banks = g.B.RegisterSlots.slots c.write_along.new.banks } in
    unless-memory (route_at c.args.net.now.present.tree (record { node = c.in-Ok.at.host; host = c.args.host; a = c.args.a; b = c.args.b })) old new c.write_along.result
    (IsSettledNow new.net.present) c.write_along.ensures (λ writes asked. asked.settled)

pub returns-clause-tree : goal.returns-clause-tree
returns-clause-tree g c =
    let old : Desk = record { net = c.args.net.now; banks = g.B.RegisterSlots.slots c.args.banks.now } in
    let new : Desk = record { net = c.write_along.new.net; banks = g.B.RegisterSlots.slots c.write_along.new.banks } in
    unless-memory (route_at c.args.net.now.present.tree (record { node = c.in-Ok.at.host; host = c.args.host; a = c.args.a; b = c.args.b })) old new c.write_along.result
    (new.net.present.tree ≡ old.net.present.tree) c.write_along.ensures (λ writes asked. asked.same)
