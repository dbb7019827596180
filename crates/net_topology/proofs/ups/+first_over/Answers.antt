use Rattle.std.proofs.Common.{◌-◌, sym, ◌∙◌, arith}
use Rattle.net_topology.proofs.UpLemmas.{first_kept, first_here, first_there, back_joined, first_back_here, first_back}
use Rattle.net_topology.proofs.ups.+first_over.Goals as goal

pub returns-then-is_joined : goal.returns-then-is_joined
returns-then-is_joined t c =
    c.first_over.ensures ∙ first_kept c.args.plan.now.links c.args.k (c.args.k - 1) c.args.a c.args.b (omega arith) (sym c.is_joined.ensures ∙ c.if-is_joined.true)

pub returns-then-a-link : goal.returns-then-a-link
returns-then-a-link t c =
    first_here c.args.plan.now.links c.args.k (c.args.k - 1) c.args.a c.args.b (omega arith) c.link_at-link.result c.link_at-link.ensures.value (sym c.is_joined.ensures ∙ c.if-is_joined.false) (sym c.is_joined-2.ensures ∙ c.if-is_joined-2.true) c.if-a-link.true

pub returns-then-is_joined-2 : goal.returns-then-is_joined-2
returns-then-is_joined-2 t c =
    c.first_over-then-is_joined-2.ensures ∙ first_there c.args.plan.now.links c.args.k (c.args.k - 1) c.args.a c.args.b (omega arith) c.link_at-link.result c.link_at-link.ensures.value (sym c.is_joined.ensures ∙ c.if-is_joined.false) (sym c.is_joined-2.ensures ∙ c.if-is_joined-2.true) c.if-a-link.false

pub returns-then-a-link-2 : goal.returns-then-a-link-2
returns-then-a-link-2 t c =
    first_back_here c.args.plan.now.links c.args.k (c.args.k - 1) c.args.a c.args.b (omega arith) c.link_at-link.result c.link_at-link.ensures.value (sym c.is_joined.ensures ∙ c.if-is_joined.false) (sym c.is_joined-2.ensures ∙ c.if-is_joined-2.false) c.if-a-link-2.true

pub first_over-requires-2 : goal.first_over-requires-2
first_over-requires-2 t c =
    let joined = back_joined c.args.plan.now.links c.args.k (c.args.k - 1) c.args.a c.args.b (omega arith) c.link_at-link.result c.link_at-link.ensures.value c.requires.joined (sym c.is_joined.ensures ∙ c.if-is_joined.false) (sym c.is_joined-2.ensures ∙ c.if-is_joined-2.false) in
    (omega arith, (c.requires.rows, (c.requires.sound, (c.requires.few, (omega arith, (c.requires.a, (c.link_at-link.ensures.b, joined)))))))

pub returns : goal.returns
returns t c =
    c.first_over-2.ensures ∙ first_back c.args.plan.now.links c.args.k (c.args.k - 1) c.args.a c.args.b (omega arith) c.link_at-link.result c.link_at-link.ensures.value c.requires.joined (sym c.is_joined.ensures ∙ c.if-is_joined.false) (sym c.is_joined-2.ensures ∙ c.if-is_joined-2.false) c.if-a-link-2.false
