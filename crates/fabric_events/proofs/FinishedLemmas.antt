-- Which producers are finished, by what their streams tell.
use Rattle.std.proofs.Common.{◌≡◌, ◌≢◌, ℕ, zero, suc, ◌-◌, ◌<◌, Bool, false, List, [], ◌∷◌, length, get_or, refl, sym, ◌∙◌, ap, arith}
use Rattle.std.specs.Prelude.{◌&&◌, if◌then◌else◌}
use Rattle.std.specs.List.{list_all}
use Rattle.std.proofs.lemmas.List.{get_or_default}
use Rattle.net_machine.specs.declared.plan.BlockPlan.{BlockPlan}
use Rattle.net_machine.specs.Blocks.{is_clear, is_finished}
use Rattle.net_machine.specs.Front.{Front}
use Rattle.net_machine.specs.Plans.{block_at, is_tx, no_block}
use Rattle.fabric_events.specs.Fabrics.{input_drained}
use Rattle.fabric_events.proofs.FrontLemmas.{and_false}

-- where one doesn't pass a test, not all do
pub not-all : {X : Type 0} (test : X → Bool) (xs : List X) (i : ℕ) (d : X) → i < length xs → false ≡ test (get_or xs i d) → false ≡ list_all test xs
not-all test [] i d there fails = absurd (omega arith)
not-all test (x ∷ xs) zero d there fails = ap (λ b. b && list_all test xs) fails
not-all test (x ∷ xs) (suc i) d there fails =
    sym (and_false (test x)) ∙ ap (λ b. test x && b) (not-all test xs i d (omega arith) fails)

-- a block that is no Tx is finished as its inputs are drained
pub finished-by : (k : ℕ) (f : Front) (b : ℕ) (block : BlockPlan) → k ≢ 0 → b < length f.plan.blocks → block ≡ get_or f.plan.blocks b block
    → false ≡ is_tx block.kind → list_all (input_drained (k - 1) f) block.ins ≡ is_finished k f b
finished-by zero f b block some there is no_tx = absurd (some refl)
finished-by (suc k) f b block some there is no_tx =
    let e : suc k - 1 ≡ k = omega arith in
    let here : block ≡ block_at f.plan b = is ∙ get_or_default f.plan.blocks b block no_block there in
    ap (λ n. list_all (input_drained n f) block.ins) e
    ∙ ap (λ t. if t then list_all (is_clear f) block.outs else list_all (input_drained k f) block.ins) no_tx
    ∙ ap (λ (x : BlockPlan). if is_tx x.kind then list_all (is_clear f) x.outs else list_all (input_drained k f) x.ins) here
