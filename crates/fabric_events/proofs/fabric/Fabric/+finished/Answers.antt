use Rattle.std.proofs.Common.{◌-◌, true, List, get_or, take, sym, ◌∙◌, ap}
use Rattle.std.specs.Prelude.{◌&&◌}
use Rattle.std.specs.List.{list_all}
use Rattle.std.proofs.lemmas.List.Folds.{list_all_more}
use Rattle.net_present.specs.Present.{front_now}
use Rattle.chdr_words.specs.declared.epid.Epid.{Epid}
use Rattle.net_machine.specs.declared.plan.BlockPlan.{BlockPlan}
use Rattle.fabric_events.specs.Fabrics.{input_drained, present_of}
use Rattle.fabric_events.proofs.FinishedLemmas.{finished-by, not-all}
use Rattle.fabric_events.proofs.fabric.Fabric.+finished.Goals as goal

pub all_drained-returns-then-not-input_drained : goal.all_drained-returns-then-not-input_drained
all_drained-returns-then-not-input_drained t c =
    not-all (input_drained c.args.k (front_now (present_of c.args.self.now))) c.args.epids.now c.loop-epid.epid-index _
    c.loop-epid-test.true (c.if-not-input_drained.ensures)

pub all_drained-loop-epid-preserved : goal.all_drained-loop-epid-preserved
all_drained-loop-epid-preserved t c =
    let test = input_drained c.args.k (front_now (present_of c.args.self.now)) in
    list_all_more test c.args.epids.now c.loop-epid.epid-index _ c.loop-epid-test.true
    ∙ ap (λ b. list_all test (take c.loop-epid.epid-index c.args.epids.now) && b) (sym c.if-not-input_drained.ensures)
    ∙ ap (λ b. b && true) c.loop-epid.invariant

pub is_finished-returns : goal.is_finished-returns
is_finished-returns t c =
    let f = front_now (present_of c.args.self.now) in
    c.all_drained.ensures
    ∙ ap (λ (es : List Epid). list_all (input_drained (c.args.k - 1) f) es) c.as_slice-2.ensures
    ∙ finished-by c.args.k f c.args.b c.index-as_slice-b.result c.if-k-eq0.false c.requires.there
    (c.index-as_slice-b.is ∙ ap (λ (bs : List BlockPlan). get_or bs c.args.b c.index-as_slice-b.result) c.as_slice.ensures) c.if-is_tx.ensures
