use Rattle.std.proofs.Common.{◌∙◌, ℕ, ap, arith}
use Rattle.std.proofs.lemmas.Bool.{false≢true}
use Rattle.net_machine.specs.Nodes.{exits_of}
use Rattle.fabric_events.specs.Fabrics.{present_of}
use Rattle.fabric_net.proofs.Leading.{leads-after, leads-nowhere, leads-on, rank-falls}
use Rattle.fabric_net.proofs.reaching.+leads_from.Goals as goal

pub leads_from-requires : goal.leads_from-requires
leads_from-requires t c =
    let f = c.args.fabric.now in
    let falls = rank-falls f.wires (exits_of (present_of f).nodes) c.args.dst c.args.d c.in-Some.e c.requires.tree c.requires.there c.in-Some.ensures.value in
    let rank = c.requires.rank in
    let some = c.if-k-gt0.true in
    (omega (arith, some), (c.requires.sound, (c.requires.tree, (c.in-Some.ensures.there, omega (arith, falls, rank, some)))))

pub returns-then-k-gt0 : goal.returns-then-k-gt0
returns-then-k-gt0 t c =
    let f = c.args.fabric.now in
    let exits = exits_of (present_of f).nodes in (
      λ yes. leads-after f.wires exits c.args.dst c.args.d c.in-Some.e c.args.target c.in-Some.ensures.value (c.leads_from.ensures.0 yes),
      λ way. c.leads_from.ensures.1 (leads-on f.wires exits c.args.dst c.args.d c.in-Some.e c.args.target
          (λ is. c.if-node-target.false (ap (λ (at : ℕ × ℕ). at.0) c.end_at-node.ensures.value ∙ is)) c.in-Some.ensures.value way),
    )

pub returns-else-k-gt0 : goal.returns-else-k-gt0
returns-else-k-gt0 t c =
    let f = c.args.fabric.now in
    let falls = rank-falls f.wires (exits_of (present_of f).nodes) c.args.dst c.args.d c.in-Some.e c.requires.tree c.requires.there c.in-Some.ensures.value in
    let rank = c.requires.rank in
    let none = c.if-k-gt0.false in
    absurd (omega (arith, falls, rank, none))

pub returns-in-None : goal.returns-in-None
returns-in-None t c =
    let f = c.args.fabric.now in (
      λ yes. absurd (false≢true yes),
      λ way. absurd (leads-nowhere f.wires (exits_of (present_of f).nodes) c.args.dst c.args.d c.args.target
          (λ is. c.if-node-target.false (ap (λ (at : ℕ × ℕ). at.0) c.end_at-node.ensures.value ∙ is)) c.in-None.ensures.value way),
    )
