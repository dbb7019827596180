-- Each port has one directed link that leaves by it, and a packet that leaves by another port than it came by goes on.
use Rattle.std.proofs.Common.{◌≡◌, ◌≢◌, ◌&&◌, ◌||◌, ℕ, zero, suc, ◌+◌, ◌*◌, ◌<◌, Bool, true, false, cond, eqb, List, [], ◌∷◌, length, Option, Some, None, ◌⊎◌, inl, inr, sym, ◌∙◌, refl, ap, subst, arith}
use Rattle.std.proofs.lemmas.Bool.{cases_lt, false≢true}
use Rattle.std.proofs.lemmas.Bool.Decides.{nat_tests}
use Rattle.net_topology.specs.declared.plan.LinkPlan.{LinkPlan}
use Rattle.net_topology.specs.declared.plan.Plan.{Plan}
use Rattle.net_topology.specs.Links.{link_of, back_of, start_of, end_of, start_port, end_port, IsWay, link_after, link_at}
use Rattle.net_topology.specs.Ranks.{MayFollow}
use Rattle.net_topology.specs.Tree.{IsTree, uses_port, shares_port}
use Rattle.net_topology.proofs.WalkLemmas.{start_of-even, start_of-odd, rest_even, half_even, rest_odd, half_odd}
use Rattle.net_topology.proofs.RankLemmas.{parity, back_of-even, back_of-odd}
use Rattle.net_topology.proofs.BackLemmas.{NeverTurns-way}
use Rattle.net_topology.proofs.LawLemmas.{cases_bool}

pub start_port-even : (links : List LinkPlan) (k : ℕ) → start_port links (2 * k) ≡ (link_of links k).a_port
start_port-even links k = rw (rest_even k, half_even k) refl

pub end_port-even : (links : List LinkPlan) (k : ℕ) → end_port links (2 * k) ≡ (link_of links k).b_port
end_port-even links k = rw (rest_even k, half_even k) refl

pub start_port-odd : (links : List LinkPlan) (k : ℕ) → start_port links (2 * k + 1) ≡ (link_of links k).b_port
start_port-odd links k = rw (rest_odd k, half_odd k) refl

pub end_port-odd : (links : List LinkPlan) (k : ℕ) → end_port links (2 * k + 1) ≡ (link_of links k).a_port
end_port-odd links k = rw (rest_odd k, half_odd k) refl

pub start_port-back : (links : List LinkPlan) (d : ℕ) → start_port links (back_of d) ≡ end_port links d
start_port-back links d =
    let j = (parity d).0 in
    elim (parity d).1 [
      | inl e ↦ ap (λ x. start_port links (back_of x)) e ∙ ap (start_port links) (back_of-even j) ∙ start_port-odd links j ∙ sym (end_port-even links j) ∙ ap (end_port links) (sym e)
      | inr e ↦ ap (λ x. start_port links (back_of x)) e ∙ ap (start_port links) (back_of-odd j) ∙ start_port-even links j ∙ sym (end_port-odd links j) ∙ ap (end_port links) (sym e)
    ]

-- the directed link leaves this node by this port
pub record LeavesBy (links : List LinkPlan) (d node port : ℕ) : Type 0 where
  pub from : start_of links d ≡ node
  pub out : start_port links d ≡ port

pub leaves_even : (links : List LinkPlan) (k node port : ℕ) → (link_of links k).a ≡ node → (link_of links k).a_port ≡ port → LeavesBy links (2 * k) node port
leaves_even links k node port p q = record { from = start_of-even links k ∙ p; out = start_port-even links k ∙ q }

pub leaves_odd : (links : List LinkPlan) (k node port : ℕ) → (link_of links k).b ≡ node → (link_of links k).b_port ≡ port → LeavesBy links (2 * k + 1) node port
leaves_odd links k node port p q = record { from = start_of-odd links k ∙ p; out = start_port-odd links k ∙ q }

pub both_true : (a b c d : ℕ) → (eqb a b && eqb c d) ≡ true → (a ≡ b) × (c ≡ d)
both_true a b c d h = grind (arith, nat_tests)

pub or_left : (s t : Bool) → s ≡ true → (s || t) ≡ true
or_left true t h = refl
or_left false t h = absurd (false≢true h)

pub or_right : (s t : Bool) → t ≡ true → (s || t) ≡ true
or_right true t h = refl
or_right false t h = h

pub not_or_left : (s t : Bool) → s ≡ false → t ≡ false → (s || t) ≡ false
not_or_left true t h k = absurd (false≢true (sym h))
not_or_left false t h k = k

-- an equation between tests settles a choice
pub choose_true : {A : Type 0} (b : Bool) (x y : A) → b ≡ true → cond b x y ≡ x
choose_true b x y e = ap (λ t. cond t x y) e

pub choose_false : {A : Type 0} (b : Bool) (x y : A) → b ≡ false → cond b x y ≡ y
choose_false b x y e = ap (λ t. cond t x y) e

-- there is a number, or none
pub cases_option : (o : Option ℕ) → (o ≡ None) ⊎ ((x : ℕ) × (o ≡ Some x))
cases_option None = inl refl
cases_option (Some x) = inr (x, refl)

-- where the search stops: at an end of link k of the list
abbrev pub Found : List LinkPlan → ℕ → ℕ → ℕ → ℕ → Type 0
Found ls d node port r =
    (k : ℕ) × (k < length ls) × (((r ≡ d + 2 * k) × ((link_of ls k).a ≡ node) × ((link_of ls k).a_port ≡ port)) ⊎ ((r ≡ d + (2 * k + 1)) × ((link_of ls k).b ≡ node) × ((link_of ls k).b_port ≡ port)))

pub link_after-some : (d : ℕ) (ls : List LinkPlan) (node port r : ℕ) → link_after d ls node port ≡ Some r → Found ls d node port r
link_after-some d [] node port r h = cc
link_after-some d (l ∷ ls) node port r h =
    elim (cases_bool (eqb l.a node && eqb l.a_port port)) [
      | inl t ↦
          let e : Some d ≡ Some r = sym (choose_true (eqb l.a node && eqb l.a_port port) _ _ t) ∙ h in
          let f : d ≡ r = cc in
          (0, omega arith, inl (omega arith, (both_true l.a node l.a_port port t).0, (both_true l.a node l.a_port port t).1))
      | inr no_a ↦ elim (cases_bool (eqb l.b node && eqb l.b_port port)) [
        | inl t ↦
            let e : Some (d + 1) ≡ Some r = sym (choose_false (eqb l.a node && eqb l.a_port port) _ _ no_a ∙ choose_true (eqb l.b node && eqb l.b_port port) _ _ t) ∙ h in
            let f : d + 1 ≡ r = cc in
            (0, omega arith, inr (omega arith, (both_true l.b node l.b_port port t).0, (both_true l.b node l.b_port port t).1))
        | inr no_b ↦
            let rest = link_after-some (d + 2) ls node port r (sym (choose_false (eqb l.a node && eqb l.a_port port) _ _ no_a ∙ choose_false (eqb l.b node && eqb l.b_port port) _ _ no_b) ∙ h) in (
              suc rest.0,
              omega (arith, rest.1),
              elim rest.2 [
                | inl f ↦ inl (omega (arith, f.0), f.1, f.2)
                | inr f ↦ inr (omega (arith, f.0), f.1, f.2)
              ],
            )
      ]
    ]

pub none_below : (d : ℕ) (l : LinkPlan) (ls : List LinkPlan) (node port : ℕ) → (eqb l.a node && eqb l.a_port port) ≡ false → (eqb l.b node && eqb l.b_port port) ≡ false → ((k : ℕ) → k < length ls → uses_port (link_of ls k) node port ≡ false) → (k : ℕ) → k < length (l ∷ ls) → uses_port (link_of (l ∷ ls) k) node port ≡ false
none_below d l ls node port no_a no_b rest zero b = not_or_left _ _ no_a no_b
none_below d l ls node port no_a no_b rest (suc k) b = rest k (omega arith)

pub link_after-none : (d : ℕ) (ls : List LinkPlan) (node port : ℕ) → link_after d ls node port ≡ None → (k : ℕ) → k < length ls → uses_port (link_of ls k) node port ≡ false
link_after-none d [] node port h k l = absurd (omega arith)
link_after-none d (l ∷ ls) node port h k b =
    elim (cases_bool (eqb l.a node && eqb l.a_port port)) [
      | inl t ↦
          let e : Some d ≡ None = sym (choose_true (eqb l.a node && eqb l.a_port port) _ _ t) ∙ h in
          cc
      | inr no_a ↦ elim (cases_bool (eqb l.b node && eqb l.b_port port)) [
        | inl t ↦
            let e : Some (d + 1) ≡ None = sym (choose_false (eqb l.a node && eqb l.a_port port) _ _ no_a ∙ choose_true (eqb l.b node && eqb l.b_port port) _ _ t) ∙ h in
            cc
        | inr no_b ↦ none_below d l ls node port no_a no_b (link_after-none (d + 2) ls node port (sym (choose_false (eqb l.a node && eqb l.a_port port) _ _ no_a ∙ choose_false (eqb l.b node && eqb l.b_port port) _ _ no_b) ∙ h)) k b
      ]
    ]

-- the directed link that is found is there, and leaves the node by the port
pub link_at-some : (links : List LinkPlan) (node port d : ℕ) → link_at links node port ≡ Some d → (d < 2 * length links) × LeavesBy links d node port
link_at-some links node port d h =
    let found = link_after-some 0 links node port d h in
    elim found.2 [
      | inl f ↦
          let e : d ≡ 2 * found.0 = omega (arith, f.0) in
          (omega (arith, found.1), subst (λ x. LeavesBy links x node port) (sym e) (leaves_even links found.0 node port f.1 f.2))
      | inr f ↦
          let e : d ≡ 2 * found.0 + 1 = omega (arith, f.0) in
          (omega (arith, found.1), subst (λ x. LeavesBy links x node port) (sym e) (leaves_odd links found.0 node port f.1 f.2))
    ]

pub same_test : (a b c d : ℕ) → a ≡ b → c ≡ d → (eqb a b && eqb c d) ≡ true
same_test a b c d p q = grind (arith, nat_tests)

-- a link uses the port by which it leaves, and shares it with any other that leaves by it
pub uses_start : (links : List LinkPlan) (d node port : ℕ) → LeavesBy links d node port → uses_port (link_of links (parity d).0) node port ≡ true
uses_start links d node port l =
    let j = (parity d).0 in
    elim (parity d).1 [
      | inl e ↦ or_left _ _ (same_test (link_of links j).a node (link_of links j).a_port port (sym (ap (start_of links) e ∙ start_of-even links j) ∙ l.from) (sym (ap (start_port links) e ∙ start_port-even links j) ∙ l.out))
      | inr e ↦ or_right _ _ (same_test (link_of links j).b node (link_of links j).b_port port (sym (ap (start_of links) e ∙ start_of-odd links j) ∙ l.from) (sym (ap (start_port links) e ∙ start_port-odd links j) ∙ l.out))
    ]

pub shares_start : (links : List LinkPlan) (l : LinkPlan) (d node port : ℕ) → LeavesBy links d node port → uses_port l node port ≡ true → shares_port l (link_of links (parity d).0) ≡ true
shares_start links l d node port leaves u =
    let j = (parity d).0 in
    elim (parity d).1 [
      | inl e ↦ or_left _ _ (ap (λ x. uses_port l x (link_of links j).a_port) (sym (start_of-even links j) ∙ ap (start_of links) (sym e) ∙ leaves.from) ∙ ap (uses_port l node) (sym (start_port-even links j) ∙ ap (start_port links) (sym e) ∙ leaves.out) ∙ u)
      | inr e ↦ or_right _ _ (ap (λ x. uses_port l x (link_of links j).b_port) (sym (start_of-odd links j) ∙ ap (start_of links) (sym e) ∙ leaves.from) ∙ ap (uses_port l node) (sym (start_port-odd links j) ∙ ap (start_port links) (sym e) ∙ leaves.out) ∙ u)
    ]

module _ (plan : Plan) (tree : IsTree plan) where
  -- two directed links that leave by one port are one
  pub one_leaves : (d e node port : ℕ) → d < 2 * length plan.links → e < 2 * length plan.links → LeavesBy plan.links d node port → LeavesBy plan.links e node port → d ≡ e
  one_leaves d e node port p q l m =
      let i = (parity d).0 in
      let j = (parity e).0 in
      elim (cases_lt i j) [
        | inl less ↦ absurd ((tree.links j (omega (arith, (parity e).1))).once (i, less, shares_start plan.links (link_of plan.links i) e node port m (uses_start plan.links d node port l)))
        | inr more ↦ elim (cases_lt j i) [
          | inl less ↦ absurd ((tree.links i (omega (arith, (parity d).1))).once (j, less, shares_start plan.links (link_of plan.links j) d node port l (uses_start plan.links e node port m)))
          | inr less ↦
              let same : i ≡ j = omega arith in
              elim (parity d).1 [
                | inl s ↦ elim (parity e).1 [
                  | inl t ↦ omega arith
                  | inr t ↦ absurd ((tree.links i (omega arith)).apart ([], sym (start_of-even plan.links i) ∙ ap (start_of plan.links) (sym s) ∙ l.from ∙ sym m.from ∙ ap (start_of plan.links) t ∙ start_of-odd plan.links j ∙ ap (λ k. (link_of plan.links k).b) (sym same)))
                ]
                | inr s ↦ elim (parity e).1 [
                  | inl t ↦ absurd ((tree.links i (omega arith)).apart ([], ap (λ k. (link_of plan.links k).a) same ∙ sym (start_of-even plan.links j) ∙ ap (start_of plan.links) (sym t) ∙ m.from ∙ sym l.from ∙ ap (start_of plan.links) s ∙ start_of-odd plan.links i))
                  | inr t ↦ omega arith
                ]
              ]
        ]
      ]

  -- a directed link is the one that is found at its port
  pub link_at-start : (d : ℕ) → d < 2 * length plan.links → link_at plan.links (start_of plan.links d) (start_port plan.links d) ≡ Some d
  link_at-start d h =
      let own : LeavesBy plan.links d (start_of plan.links d) (start_port plan.links d) = record { from = refl; out = refl } in
      elim (cases_option (link_at plan.links (start_of plan.links d) (start_port plan.links d))) [
        | inl none ↦
            let unused = link_after-none 0 plan.links (start_of plan.links d) (start_port plan.links d) none (parity d).0 (omega (arith, (parity d).1)) in
            absurd (false≢true (sym unused ∙ uses_start plan.links d (start_of plan.links d) (start_port plan.links d) own))
        | inr some ↦
            let found = link_at-some plan.links (start_of plan.links d) (start_port plan.links d) some.0 some.1 in
            some.1 ∙ ap Some (one_leaves some.0 d (start_of plan.links d) (start_port plan.links d) found.0 h found.1 own)
      ]

-- a packet that leaves by another port than it came by goes on
pub goes_on : (links : List LinkPlan) (d e port : ℕ) → port ≢ end_port links d → link_at links (end_of links d) port ≡ Some e → MayFollow links d e
goes_on links d e port ne h =
    let found = link_at-some links (end_of links d) port e h in
    record {
      there = found.0;
      starts = found.1.from;
      onward = λ q. ne (sym found.1.out ∙ ap (start_port links) q ∙ start_port-back links d);
    }

-- and so does one that follows a way
pub way_goes_on : (links : List LinkPlan) (a b d e : ℕ) (ds : List ℕ) → IsWay links a b (d ∷ e ∷ ds) → MayFollow links d e
way_goes_on links a b d e ds w =
    record {
      there = w.0.2.0;
      starts = w.0.2.1;
      onward = (NeverTurns-way links (length links) a b (d ∷ e ∷ ds) w).0;
    }
