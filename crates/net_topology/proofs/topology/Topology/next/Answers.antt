use Rattle.std.proofs.Common.{rules, ◌∙◌, slice_get, Some, sym, ap, arith}
use Rattle.net_topology.specs.Mapped.{IsMapped}
use Rattle.net_topology.proofs.NextLemmas.{next_same, next_some, next_none, next_there, next_way, next_met, next_alike, next_last, next_nearer}
use Rattle.net_topology.proofs.topology.Topology.next.Goals as goal

pub returns-then-a-b-clause-value : goal.returns-then-a-b-clause-value
returns-then-a-b-clause-value c =
    ap (λ xs. slice_get xs 0) (sym (next_same c.args.self.now c.args.a c.args.b c.if-a-b.true))

pub returns-then-a-b-clause-way : goal.returns-then-a-b-clause-way
returns-then-a-b-clause-way c = next_same c.args.self.now c.args.a c.args.b c.if-a-b.true

pub end_at-parent-requires : goal.end_at-parent-requires
end_at-parent-requires c =
    let mapped : IsMapped c.args.self.now c.self.inside.ups = search rules in
    (next_some c.args.self.now mapped.checked.tree c.loop-up.node 0 c.in-Some.up c.loop-up.invariant.there (omega arith) c.in-Some.ensures).0

pub back_of-requires : goal.back_of-requires
back_of-requires c =
    let mapped : IsMapped c.args.self.now c.self.inside.ups = search rules in
    let up = next_some c.args.self.now mapped.checked.tree c.loop-up.node 0 c.in-Some.up c.loop-up.invariant.there (omega arith) c.in-Some.ensures in
    omega (arith, up.0, mapped.few)

pub returns-then-parent-a-clause-value : goal.returns-then-parent-a-clause-value
returns-then-parent-a-clause-value c =
    let mapped : IsMapped c.args.self.now c.self.inside.ups = search rules in
    next_met c.args.self.now mapped.checked.tree c.args.a c.args.b c.loop-up.node c.in-Some.up c.end_at-parent.result.0 c.back_of.result c.loop-up.invariant.there c.loop-up.invariant.alike c.in-Some.ensures (ap (λ p. p.0) c.end_at-parent.ensures.value) c.if-parent-a.true c.back_of.ensures

pub returns-then-parent-a-clause-there : goal.returns-then-parent-a-clause-there
returns-then-parent-a-clause-there c =
    let mapped : IsMapped c.args.self.now c.self.inside.ups = search rules in
    next_there c.args.self.now mapped.checked.tree c.args.a c.args.b (Some c.back_of.result) c.requires.a c.requires.b (next_met c.args.self.now mapped.checked.tree c.args.a c.args.b c.loop-up.node c.in-Some.up c.end_at-parent.result.0 c.back_of.result c.loop-up.invariant.there c.loop-up.invariant.alike c.in-Some.ensures (ap (λ p. p.0) c.end_at-parent.ensures.value) c.if-parent-a.true c.back_of.ensures)

pub returns-then-parent-a-clause-way : goal.returns-then-parent-a-clause-way
returns-then-parent-a-clause-way c =
    let mapped : IsMapped c.args.self.now c.self.inside.ups = search rules in
    next_way c.args.self.now mapped.checked.tree c.args.a c.args.b (Some c.back_of.result) c.requires.a c.requires.b (next_met c.args.self.now mapped.checked.tree c.args.a c.args.b c.loop-up.node c.in-Some.up c.end_at-parent.result.0 c.back_of.result c.loop-up.invariant.there c.loop-up.invariant.alike c.in-Some.ensures (ap (λ p. p.0) c.end_at-parent.ensures.value) c.if-parent-a.true c.back_of.ensures)

pub loop-up-smaller : goal.loop-up-smaller
loop-up-smaller c =
    let mapped : IsMapped c.args.self.now c.self.inside.ups = search rules in
    next_nearer c.args.self.now mapped.checked.tree c.loop-up.node c.in-Some.up c.end_at-parent.result.0 c.loop-up.invariant.there c.in-Some.ensures (ap (λ p. p.0) c.end_at-parent.ensures.value)

pub loop-up-preserved : goal.loop-up-preserved
loop-up-preserved c =
    let mapped : IsMapped c.args.self.now c.self.inside.ups = search rules in
    record {
      there = c.end_at-parent.ensures.there;
      apart = λ e. c.if-parent-a.false (sym e);
      alike = next_alike c.args.self.now mapped.checked.tree c.args.a c.args.b c.loop-up.node c.in-Some.up c.end_at-parent.result.0 c.requires.a c.loop-up.invariant.there c.loop-up.invariant.apart c.loop-up.invariant.alike c.in-Some.ensures (ap (λ p. p.0) c.end_at-parent.ensures.value) (λ e. c.if-parent-a.false (sym e));
    }

pub returns-clause-value : goal.returns-clause-value
returns-clause-value c =
    let mapped : IsMapped c.args.self.now c.self.inside.ups = search rules in
    let root = next_none c.args.self.now mapped.checked.tree c.loop-up.node 0 c.loop-up.invariant.there (omega arith) (sym c.up.ensures ∙ c.in_default.is) in
    next_last c.args.self.now c.args.a c.args.b c.loop-up.node c.up-2.result root c.loop-up.invariant.alike c.up-2.ensures

pub returns-clause-there : goal.returns-clause-there
returns-clause-there c =
    let mapped : IsMapped c.args.self.now c.self.inside.ups = search rules in
    let root = next_none c.args.self.now mapped.checked.tree c.loop-up.node 0 c.loop-up.invariant.there (omega arith) (sym c.up.ensures ∙ c.in_default.is) in
    next_there c.args.self.now mapped.checked.tree c.args.a c.args.b c.up-2.result c.requires.a c.requires.b (next_last c.args.self.now c.args.a c.args.b c.loop-up.node c.up-2.result root c.loop-up.invariant.alike c.up-2.ensures)

pub returns-clause-way : goal.returns-clause-way
returns-clause-way c =
    let mapped : IsMapped c.args.self.now c.self.inside.ups = search rules in
    let root = next_none c.args.self.now mapped.checked.tree c.loop-up.node 0 c.loop-up.invariant.there (omega arith) (sym c.up.ensures ∙ c.in_default.is) in
    next_way c.args.self.now mapped.checked.tree c.args.a c.args.b c.up-2.result c.requires.a c.requires.b (next_last c.args.self.now c.args.a c.args.b c.loop-up.node c.up-2.result root c.loop-up.invariant.alike c.up-2.ensures)
