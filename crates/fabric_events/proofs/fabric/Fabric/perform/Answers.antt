use Rattle.std.proofs.Common.{◌≡◌, ℕ, List, refl, sym, ◌∙◌, ap, subst}
use Rattle.chdr_words.specs.declared.management.Management.{Management}
use Rattle.net_machine.specs.Front.{Queued}
use Rattle.net_machine.specs.Passing.{walked_by}
use Rattle.net_machine.specs.State.{Node}
use Rattle.net_needs.specs.Hopping.{HasWayOn}
use Rattle.net_nodes.specs.Perform.{performed}
use Rattle.fabric_nodes.specs.Shapes.{site_of}
use Rattle.fabric_lists.specs.SitesView.{shape_seen, sites_of}
use Rattle.fabric_events.specs.Fabrics.{present_of}
use Rattle.fabric_events.specs.Walking.{moves_by}
use Rattle.fabric_events.proofs.WalkLemmas.{moved_by_hop, port_there, same_management, site_there, way_by_hop, with_banks}
use Rattle.fabric_events.proofs.WorkLemmas.{flag_kept, sound_sites}
use Rattle.fabric_events.proofs.fabric.Fabric.perform.Goals as goal

pub perform-exit-requires-clause-port : goal.perform-exit-requires-clause-port
perform-exit-requires-clause-port c =
    port_there c.args.self.now c.args.d c.end_at-x.result.0 c.end_at-x.result.1 c.requires.sound (ap (λ (r : ℕ × ℕ). r.0) c.end_at-x.ensures.value)
    (ap (λ (r : ℕ × ℕ). r.1) c.end_at-x.ensures.value) c.requires.comes.node c.requires.comes.port

pub leave-requires-clause-way : goal.leave-requires-clause-way
leave-requires-clause-way c =
    let f = c.args.self.now in
    let p = present_of f in
    let x = c.end_at-x.result.0 in
    let port = c.end_at-x.result.1 in
    let at = ap (λ (r : ℕ × ℕ). r.0) c.end_at-x.ensures.value in
    let by = ap (λ (r : ℕ × ℕ). r.1) c.end_at-x.ensures.value in
    let m = c.in-Management.m in
    let packet = c.entry.inside.packet in
    let way = subst (λ (e : Queued). HasWayOn p c.args.vc (walked_by p.tree p.nodes c.args.d e.packet m).outcome) (sym c.entry.view_is)
    (c.requires.way m (ap (λ (e : Queued). e.packet.body) (sym c.entry.view_is) ∙ c.in-Management.is)) in (
      c.perform-exit.new.m,
      refl,
      way_by_hop p (record p { nodes = (sites_of c.perform-exit.new.sites.items).nodes }) c.args.d c.args.vc x
          (site_of (shape_seen (sites_of f.sites.items).shapes x) port) packet m c.perform-exit.new.m c.perform-exit.result at
          (site_there f c.args.d x port c.requires.sound at by c.requires.comes.node) c.perform-exit.ensures.packet c.perform-exit.ensures.exit refl way,
    )

pub returns-in-Management-clause-goes : goal.returns-in-Management-clause-goes
returns-in-Management-clause-goes c m banks is =
    let f = c.args.self.now in
    let p = present_of f in
    let new = present_of c.leave.new.self in
    let x = c.end_at-x.result.0 in
    let port = c.end_at-x.result.1 in
    let at = ap (λ (r : ℕ × ℕ). r.0) c.end_at-x.ensures.value in
    let by = ap (λ (r : ℕ × ℕ). r.1) c.end_at-x.ensures.value in
    let there = ap (λ (e : Queued). e.packet.body) (sym c.entry.view_is) ∙ c.in-Management.is in
    let same = same_management c.in-Management.m m (sym there ∙ is) in
    let entry : Queued = record { packet = c.entry.inside.packet; marked = c.entry.inside.marked } in
    let mid = record p { nodes = (sites_of c.perform-exit.new.sites.items).nodes } in
    let here = moved_by_hop p mid new banks c.args.d c.args.vc x (site_of (shape_seen (sites_of f.sites.items).shapes x) port) entry
    c.in-Management.m c.perform-exit.new.m c.perform-exit.result at (site_there f c.args.d x port c.requires.sound at by c.requires.comes.node)
    c.perform-exit.ensures.packet c.perform-exit.ensures.exit (ap (λ (ns : List Node). record p { nodes = ns }) c.perform-exit.ensures.nodes)
    (c.leave.ensures.goes c.perform-exit.new.m banks refl) in
    subst (λ (e : Queued). moves_by c.args.d c.args.vc e (walked_by p.tree p.nodes c.args.d e.packet m) (with_banks p banks) ≡ with_banks new banks)
    c.entry.view_is
    (subst (λ (k : Management). moves_by c.args.d c.args.vc entry (walked_by p.tree p.nodes c.args.d entry.packet k) (with_banks p banks) ≡ with_banks new banks)
    same here)

pub leave-requires-clause-sound : goal.leave-requires-clause-sound
leave-requires-clause-sound c =
    let f = c.args.self.now in
    sound_sites f (record f { sites = c.perform-exit.new.sites }) c.requires.sound refl c.perform-exit.ensures.shapes
    (flag_kept (sites_of f.sites.items).nodes (sites_of c.perform-exit.new.sites.items).nodes f.working c.end_at-x.result.0
    (λ n. record n {
      table =
          (performed (site_of (shape_seen (sites_of f.sites.items).shapes c.end_at-x.result.0) c.end_at-x.result.1) n.table
          c.in-Management.m).table;
    }) c.requires.sound.working c.perform-exit.ensures.nodes refl)
