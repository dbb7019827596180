-- The run of the generated script has no cause to be refused.
use Rattle.std.proofs.Common.{◌≡◌, ℕ, ◌≤◌, zero, suc, true, List, [], Option, Some, refl, subst, arith}
use Rattle.block_registers.specs.Registers.{Registers}
use Rattle.graph_core.specs.Derivation.{Settles}
use Rattle.graph_core.specs.Pairs.{Pair, value_of}
use Rattle.graph_core.specs.State.{with_values}
use Rattle.graph_core.proofs.Laws.{settling_is_unique}
use Rattle.net_machine.specs.Begin.{built}
use Rattle.net_machine.specs.CanBegin.{EachStream}
use Rattle.net_machine.specs.declared.plan.RunPlan.{RunPlan}
use Rattle.run_plans.specs.Planned.{plan_of}
use Rattle.run_plans.specs.RunRefusals.{HasNoCause, IsRunRefusal, IsShort}
use Rattle.script_books.specs.declared.refusal.Refusal.{Refusal}
use Rattle.script_worlds.specs.Causes.{IsRunCause, run_refusal}
use Rattle.script_worlds.specs.Worlds.{IsSettled, Setup}
use Rattle.script_worlds.proofs.Laws.{alike_plan_the_same}
use Rattle.generated_runs.proofs.Beginning.{fits_run, fits_run-HasNoCause, unrefused-run}
use Rattle.generated_runs.proofs.Prepared.{ready, ready-diagram}
use Rattle.generated_runs.proofs.Routed.{built-IsRouted}
use Rattle.generated_runs.proofs.Settled.{diagram, values, values-Settles}
use Rattle.generated_runs.proofs.Star.{star, star-IsTree}
use Rattle.generated_runs.proofs.Steps.{told-never}

-- the setup, committed with these values
abbrev pub committed : ℕ → List Pair → Setup
committed n vs = record (ready n) { graph = with_values (ready n).graph vs }

-- the plan of its run, with the values worked out
abbrev pub plan : ℕ → RunPlan
plan n = plan_of (ready n).layout values []

fits : (n : ℕ) → fits_run star (plan n) ≡ true
unfolding value_of
fits n = refl

-- each stream of a chain has at most the packets of its Tx
short : (n : ℕ) → n ≤ 16384 → EachStream (plan n) (IsShort (plan n))
short n few zero lt = omega (arith, few)
short n few (suc zero) lt = omega (arith, few)
short n few (suc (suc zero)) lt = omega (arith, few)
short n few (suc (suc (suc zero))) lt = omega (arith, few)
short n few (suc (suc (suc (suc zero)))) lt = omega (arith, few)
short n few (suc (suc (suc (suc (suc zero))))) lt = omega (arith, few)
short n few (suc (suc (suc (suc (suc (suc s)))))) lt = absurd (omega (arith, lt))

pub no-cause : (n : ℕ) (banks : List (Option Registers)) → n ≤ 16384 → HasNoCause star (built star true banks).nodes (plan n)
no-cause n banks few = fits_run-HasNoCause star star-IsTree (built star true banks).nodes (built-IsRouted star banks star-IsTree) (plan n) (fits n) (short n few)

-- any values that settle the graph make the same plan
same-plan : (n : ℕ) (vs : List Pair) → Settles (ready n).graph.diagram vs → plan_of (ready n).layout vs [] ≡ plan n
same-plan n vs settles = alike_plan_the_same (committed n vs) (committed n values) [] (record {
  tree = refl;
  diagram = refl;
  values = (settling_is_unique diagram vs values (subst (λ d. Settles d vs) (ready-diagram n) settles) values-Settles).1;
  mark = refl;
  layout = refl;
  found = refl;
})

pub run-free : (n : ℕ) (banks : List (Option Registers)) (last : Setup) (why : Refusal) → n ≤ 16384 → IsSettled (ready n) last
    → IsRunCause last (built star true banks).nodes [] (Some why) → ⊥
run-free n banks last why few settled cause =
    told-never run_refusal (IsRunRefusal star (built star true banks).nodes (plan_of (ready n).layout settled.values [])) why
    (λ own refused. unrefused-run star (built star true banks).nodes (plan n) own (no-cause n banks few)
    (subst (λ p. IsRunRefusal star (built star true banks).nodes p (Some own)) (same-plan n settled.values settled.settles) refused))
    (subst (λ (s : Setup). IsRunCause s (built star true banks).nodes [] (Some why)) settled.changed cause)
