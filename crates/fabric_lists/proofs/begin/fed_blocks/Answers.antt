use Rattle.std.proofs.Common.{◌≡◌, ◌<◌, ℕ, Bool, false, List, length, refl, sym, ◌∙◌, ap, get_or, set, arith}
use Rattle.std.specs.Prelude.{map, replicate}
use Rattle.std.proofs.lemmas.List.{length-map, map-set}
use Rattle.net_machine.specs.Plans.{no_block}
use Rattle.net_machine.specs.declared.plan.BlockPlan.{BlockPlan}
use Rattle.fabric_lists.specs.Opened.{is_fed}
use Rattle.fabric_lists.proofs.FilledLemmas.{filled, filled_all, filled_count, filled_more, filled_none}
use Rattle.fabric_lists.proofs.begin.fed_blocks.Goals as goal

pub loop-b-init : goal.loop-b-init
loop-b-init c =
    c.in_ok-flags.ensures ∙ ap (λ (n : ℕ). replicate n false) c.len.ensures ∙ filled_none is_fed c.args.plan.now.blocks no_block refl

pub set-requires : goal.set-requires
set-requires c =
    let blocks = c.args.plan.now.blocks in
    let many : length c.loop-b.flags ≡ length blocks =
    ap (λ (fs : List Bool). length fs) c.loop-b.invariant ∙ length-map (filled blocks c.loop-b.b no_block) is_fed ∙ filled_count blocks c.loop-b.b no_block in
    omega arith

pub loop-b-preserved : goal.loop-b-preserved
loop-b-preserved c =
    let blocks = c.args.plan.now.blocks in
    let b = c.loop-b.b in
    let block = c.index-as_slice-b.result in
    let there : b < length blocks = omega arith in
    let here : block ≡ get_or blocks b block = c.index-as_slice-b.is ∙ ap (λ (bs : List BlockPlan). get_or bs b block) c.as_slice.ensures in
    c.set.ensures ∙ ap (λ (fs : List Bool). set fs b c.is_fed.result) c.loop-b.invariant
    ∙ ap (set (map is_fed (filled blocks b no_block)) b) c.is_fed.ensures
    ∙ sym (map-set is_fed (filled blocks b no_block) b block)
    ∙ ap (map is_fed) (filled_more blocks b block no_block there here)

pub returns : goal.returns
returns c =
    let past = c.loop-b-test.false in
    let many = c.len-b-end.ensures in
    c.loop-b.invariant ∙ ap (map is_fed) (filled_all c.args.plan.now.blocks c.loop-b.b no_block (omega arith))
