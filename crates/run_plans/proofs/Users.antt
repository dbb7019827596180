-- A layout stays one of its graph as the user sets a value that its property may have.
use Rattle.std.proofs.Common.{◌≡◌, ℕ, zero, suc, ◌<◌, refl, subst, List, [], ◌∷◌, Bool, true, false, cond, length, get_or, arith, rules, Contains, Result, Ok, Err}
use Rattle.std.specs.Prelude.{OnErr, OnOk}
use Rattle.graph_core.specs.Derivation.{Diagram}
use Rattle.graph_core.specs.Pairs.{Pair, is_same, with_value}
use Rattle.graph_core.specs.State.{State, with_user}
use Rattle.graph_core.specs.declared.fault.SetFault.{SetFault}
use Rattle.graph_core.specs.declared.place.PropAt.{PropAt}
use Rattle.run_plans.specs.Layouts.{FitsValue, IsLayout}
use Rattle.run_plans.specs.declared.layout.Layout.{Layout}

same_property : (a b : PropAt) → is_same a b ≡ true → a ≡ b
same_property a b h = search rules

-- the pairs fit
abbrev Fit : List Pair → Type 0
Fit pairs = (q : PropAt) (u : ℕ) → Contains pairs (q, u) → FitsValue q.prop u

fit_head : (pair : Pair) (pairs : List Pair) → Fit (pair ∷ pairs) → FitsValue pair.0.prop pair.1
fit_head pair pairs fit = fit pair.0 pair.1 (0, omega arith, refl)

fit_tail : (pair : Pair) (pairs : List Pair) → Fit (pair ∷ pairs) → Fit pairs
fit_tail pair pairs fit q u has = let lt : has.0 < length pairs = has.1 in fit q u (suc has.0, omega arith, has.2)

fit_cons : (pair : Pair) (pairs : List Pair) → FitsValue pair.0.prop pair.1 → Fit pairs → Fit (pair ∷ pairs)
fit_cons pair pairs head tail q u has = by has.0 has.1 has.2
  where
    by : (k : ℕ) → k < length (pair ∷ pairs) → get_or (pair ∷ pairs) k (q, u) ≡ (q, u) → FitsValue q.prop u
    by zero lt e = subst (λ (p : Pair). FitsValue p.0.prop p.1) e head
    by (suc k) lt e = tail q u (k, omega arith, e)

with_fits : (pairs : List Pair) (at : PropAt) (value : ℕ) → Fit pairs → FitsValue at.prop value → Fit (with_value pairs at value)
unfolding with_value
with_fits [] at value fit new = fit_cons (at, value) [] new fit
with_fits (pair ∷ pairs) at value fit new = by (with_fits pairs at value (fit_tail pair pairs fit) new) (is_same at pair.0) refl
  where
    by : Fit (with_value pairs at value) → (b : Bool) → is_same at pair.0 ≡ b → Fit (cond b ((pair.0, value) ∷ pairs) (pair ∷ with_value pairs at value))
    by rest true e = fit_cons (pair.0, value) pairs (subst (λ (p : PropAt). FitsValue p.prop value) (same_property at pair.0 e) new) (fit_tail pair pairs fit)
    by rest false e = fit_cons pair (with_value pairs at value) (fit_head pair pairs fit) rest

pub set_kept : (diagram : Diagram) (layout : Layout) (at : PropAt) (value : ℕ) → IsLayout diagram layout → FitsValue at.prop value
    → IsLayout (record { kinds = diagram.kinds; edges = diagram.edges; users = with_value diagram.users at value }) layout
set_kept diagram layout at value ok new = record {
  kinds = ok.kinds;
  blocks = ok.blocks;
  inputs = ok.inputs;
  outputs = ok.outputs;
  few = ok.few;
  edges = ok.edges;
  along = ok.along;
  terms = ok.terms;
  users = with_fits diagram.users at value ok.users new;
}

-- so it does whether the value is set or not
pub set_either : (layout : Layout) (at : PropAt) (value : ℕ) (before after : State) (answer : Result (Unit {0}) SetFault)
    → OnOk answer (after ≡ with_user before at value) → OnErr answer (after ≡ before)
    → IsLayout before.diagram layout → FitsValue at.prop value → IsLayout after.diagram layout
set_either layout at value before after (Ok done) set kept ok new = rw set (set_kept before.diagram layout at value ok new)
set_either layout at value before after (Err fault) set kept ok new = rw kept ok
