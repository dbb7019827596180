use Rattle.std.proofs.Common.{◌≡◌, [], true, false, sym, ◌∙◌, ap, subst}
use Rattle.std.specs.Prelude.{Some}
use Rattle.std.specs.List.{flat_map}
use Rattle.net_machine.specs.Nodes.{host_with}
use Rattle.found_nodes.specs.Found.{AreFound}
use Rattle.topology_walk.specs.Discovery.{IsDiscovered}
use Rattle.topology_walk.specs.Nodes.{ports_behind}
use Rattle.topology_walk.specs.Walks.{AreKnown, WalksOn}
use Rattle.topology_walk.specs.Whole.{AreAllNodes}
use Rattle.topology_walk.specs.declared.walk.Walk.{Walk}
use Rattle.topology_walk.proofs.Asking.{fits-of, tree-of}
use Rattle.topology_walk.proofs.Discovering.{alone, discovered, has-walked, host-found, host-is, host-whole, known-first, source-is, walked-found, walked-whole}
use Rattle.topology_walk.proofs.discovery.discover.Goals as goal
use Rattle.walk_books.specs.declared.found.Found.{Found}

pub walk_on-requires-clause-source : goal.walk_on-requires-clause-source
walk_on-requires-clause-source g c =
    let some = c.stands.ensures (g.B.RegisterSlots.slots c.args.banks.now) in
    let p = c.args.net.now.present in
    let x = c.in-Some.found.0 in
    let at : host_with p.tree c.args.host ≡ Some (x, true) = sym c.host.ensures ∙ c.in-Some.is ∙ ap (λ b. Some (x, b)) c.if-not-linked.false in
    source-is p.tree c.args.host x (tree-of p some.0 some.1) (host-is p.tree c.args.host x true at)

pub walk_on-requires-clause-known : goal.walk_on-requires-clause-known
walk_on-requires-clause-known g c =
    let some = c.stands.ensures (g.B.RegisterSlots.slots c.args.banks.now) in
    let p = c.args.net.now.present in
    let x = c.in-Some.found.0 in
    let at : host_with p.tree c.args.host ≡ Some (x, true) = sym c.host.ensures ∙ c.in-Some.is ∙ ap (λ b. Some (x, b)) c.if-not-linked.false in
    subst (λ (w : Walk). AreKnown p.tree x w.found.nodes w.trails) (sym c.in_ok-walk.ensures)
    (known-first p.tree c.args.host x true (tree-of p some.0 some.1) (host-is p.tree c.args.host x true at))

pub returns-clause-settled : goal.returns-clause-settled
returns-clause-settled g c = c.in_ok-walk_on.ensures.settled

pub returns-clause-tree : goal.returns-clause-tree
returns-clause-tree g c = c.in_ok-walk_on.ensures.same

pub returns-clause-found : goal.returns-clause-found
returns-clause-found g c =
    let banks = g.B.RegisterSlots.slots c.args.banks.now in
    let left = g.B.RegisterSlots.slots c.walk_on.new.banks in
    let some = c.stands.ensures banks in
    let old = c.args.net.now in
    let now = c.walk_on.new.net in
    let tree = old.present.tree in
    let src = c.args.host in
    let x = c.in-Some.found.0 in
    let walk = c.walk_on.new.walk in
    let at : host_with tree src ≡ Some (x, true) = sym c.host.ensures ∙ c.in-Some.is ∙ ap (λ b. Some (x, b)) c.if-not-linked.false in
    let walks = subst (λ (w : Walk). WalksOn tree src x (flat_map ports_behind walk.found.nodes) (record { walk = w; net = old; banks = banks }) (record { walk = walk; net = now; banks = left }))
    c.in_ok-walk.ensures c.in_ok-walk_on.ensures in
    subst (λ (f : Found). AreFound tree f.nodes) (sym c.into_found-2.ensures)
    (walked-found old now banks left src x walk (tree-of old.present some.0 some.1) (host-is tree src x true at) walks)

pub returns-then-not-linked-clause-found : goal.returns-then-not-linked-clause-found
returns-then-not-linked-clause-found g c =
    let some = c.stands.ensures (g.B.RegisterSlots.slots c.args.banks.now) in
    let tree = c.args.net.now.present.tree in
    let src = c.args.host in
    let x = c.in-Some.found.0 in
    let at : host_with tree src ≡ Some (x, false) = sym c.host.ensures ∙ c.in-Some.is ∙ ap (λ b. Some (x, b)) c.if-not-linked.true in
    host-found tree src x c.into_found.result (tree-of c.args.net.now.present some.0 some.1) at
    (c.into_found.ensures ∙ ap (λ (w : Walk). record w.found { bare = 1 }) c.in_ok-walk.ensures)

pub returns-clause-whole : goal.returns-clause-whole
returns-clause-whole g c =
    let banks = g.B.RegisterSlots.slots c.args.banks.now in
    let left = g.B.RegisterSlots.slots c.walk_on.new.banks in
    let some = c.stands.ensures banks in
    let old = c.args.net.now in
    let now = c.walk_on.new.net in
    let tree = old.present.tree in
    let src = c.args.host in
    let x = c.in-Some.found.0 in
    let walk = c.walk_on.new.walk in
    let at : host_with tree src ≡ Some (x, true) = sym c.host.ensures ∙ c.in-Some.is ∙ ap (λ b. Some (x, b)) c.if-not-linked.false in
    let walks = subst (λ (w : Walk). WalksOn tree src x (flat_map ports_behind walk.found.nodes) (record { walk = w; net = old; banks = banks }) (record { walk = walk; net = now; banks = left }))
    c.in_ok-walk.ensures c.in_ok-walk_on.ensures in
    subst (λ (f : Found). f.lost ≡ [] → AreAllNodes tree f.nodes) (sym c.into_found-2.ensures)
    (walked-whole old now banks left src x walk (tree-of old.present some.0 some.1) (host-is tree src x true at) walks (fits-of old.present some.0 some.1).plan)

pub returns-then-not-linked-clause-whole : goal.returns-then-not-linked-clause-whole
returns-then-not-linked-clause-whole g c =
    let some = c.stands.ensures (g.B.RegisterSlots.slots c.args.banks.now) in
    let p = c.args.net.now.present in
    let x = c.in-Some.found.0 in
    let at : host_with p.tree c.args.host ≡ Some (x, false) = sym c.host.ensures ∙ c.in-Some.is ∙ ap (λ b. Some (x, b)) c.if-not-linked.true in
    host-whole p.tree c.args.host x c.into_found.result (tree-of p some.0 some.1) at
    (c.into_found.ensures ∙ ap (λ (w : Walk). record w.found { bare = 1 }) c.in_ok-walk.ensures) (fits-of p some.0 some.1).plan

pub returns-clause-walked : goal.returns-clause-walked
returns-clause-walked g c =
    let banks = g.B.RegisterSlots.slots c.args.banks.now in
    let left = g.B.RegisterSlots.slots c.walk_on.new.banks in
    let some = c.stands.ensures banks in
    let old = c.args.net.now in
    let now = c.walk_on.new.net in
    let tree = old.present.tree in
    let src = c.args.host in
    let x = c.in-Some.found.0 in
    let walk = c.walk_on.new.walk in
    let at : host_with tree src ≡ Some (x, true) = sym c.host.ensures ∙ c.in-Some.is ∙ ap (λ b. Some (x, b)) c.if-not-linked.false in
    let walks = subst (λ (w : Walk). WalksOn tree src x (flat_map ports_behind walk.found.nodes) (record { walk = w; net = old; banks = banks }) (record { walk = walk; net = now; banks = left }))
    c.in_ok-walk.ensures c.in_ok-walk_on.ensures in
    subst (λ (f : Found). IsDiscovered old banks src f now left) (sym c.into_found-2.ensures)
    (discovered old now banks left src x walk.found at
    (has-walked old now banks left src x walk (tree-of old.present some.0 some.1) (host-is tree src x true at) walks))

pub returns-then-not-linked-clause-walked : goal.returns-then-not-linked-clause-walked
returns-then-not-linked-clause-walked g c =
    let banks = g.B.RegisterSlots.slots c.args.banks.now in
    let some = c.stands.ensures banks in
    let old = c.args.net.now in
    let tree = old.present.tree in
    let src = c.args.host in
    let x = c.in-Some.found.0 in
    let at : host_with tree src ≡ Some (x, false) = sym c.host.ensures ∙ c.in-Some.is ∙ ap (λ b. Some (x, b)) c.if-not-linked.true in
    alone old banks src x c.into_found.result (tree-of old.present some.0 some.1) at
    (c.into_found.ensures ∙ ap (λ (w : Walk). record w.found { bare = 1 }) c.in_ok-walk.ensures)
