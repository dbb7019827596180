-- How the weight of a state follows its charge and its work.
use Rattle.std.proofs.Common.{◌≡◌, ℕ, ◌+◌, ◌*◌, ◌≤◌, ◌<◌, length, refl, ap, arith, mul-le-mul_left, sym, subst}
use Rattle.net_topology.specs.declared.plan.Plan.{Plan}
use Rattle.net_machine.specs.State.{State}
use Rattle.net_weights.specs.Charge.{charge, factor_of, faults_left, marks_left, potential_at, potentials, room_left, weight}
use Rattle.net_weights.specs.Sums.{sum_below}
use Rattle.net_weights.specs.Work.{top_of, work}
use Rattle.net_weights.proofs.Sums.{sum-le, sum-less, sum-more}

same-factor : (w v : State) → v.tree ≡ w.tree → factor_of v ≡ factor_of w
same-factor w v tree = ap (λ (t : Plan). 2 * top_of t + 5) tree

pub charge-falls : (w v : State) → v.tree ≡ w.tree → charge v < charge w → work v ≤ work w + (2 * top_of w.tree + 4) → weight v < weight w
unfolding weight
charge-falls w v tree less more =
    sums (factor_of w) (factor_of v) (charge v) (charge w) (work v) (work w) (top_of w.tree) (same-factor w v tree) refl less more
  where
    sums : (c d cv cw wv ww top : ℕ) → d ≡ c → c ≡ 2 * top + 5 → cv < cw → wv ≤ ww + (2 * top + 4) → d * cv + wv < c * cw + ww
    sums c d cv cw wv ww top same is less more =
        let all : c * (cv + 1) ≤ c * cw = mul-le-mul_left c (omega arith) in let old : d * cv ≡ c * cv = ap (λ (n : ℕ). n * cv) same in omega (arith, all, old)

pub work-falls : (w v : State) → v.tree ≡ w.tree → charge v ≤ charge w → work v < work w → weight v < weight w
unfolding weight
work-falls w v tree less more =
    sums (factor_of w) (factor_of v) (charge v) (charge w) (work v) (work w) (same-factor w v tree) less more
  where
    sums : (c d cv cw wv ww : ℕ) → d ≡ c → cv ≤ cw → wv < ww → d * cv + wv < c * cw + ww
    sums c d cv cw wv ww same less more =
        let all : c * cv ≤ c * cw = mul-le-mul_left c less in let old : d * cv ≡ c * cv = ap (λ (n : ℕ). n * cv) same in omega (arith, all, old)

-- the charge by its parts
pub charge-stays : (w v : State) → faults_left v + marks_left v ≤ faults_left w + marks_left w → room_left v ≤ room_left w → potentials v ≤ potentials w → charge v ≤ charge w
unfolding charge
charge-stays w v left room all = sums (faults_left v) (marks_left v) (room_left v) (potentials v) (faults_left w) (marks_left w) (room_left w) (potentials w) left room all
  where
    sums : (a b c d e f g h : ℕ) → a + b ≤ e + f → c ≤ g → d ≤ h → 12 * (a + b + c) + d ≤ 12 * (e + f + g) + h
    sums a b c d e f g h p q r = omega arith

pub charge-used : (w v : State) → faults_left v + marks_left v + room_left v + 1 ≤ faults_left w + marks_left w + room_left w → potentials v ≤ potentials w + 11 → charge v < charge w
unfolding charge
charge-used w v left all = sums (faults_left v + marks_left v + room_left v) (potentials v) (faults_left w + marks_left w + room_left w) (potentials w) left all
  where
    sums : (a d e h : ℕ) → a + 1 ≤ e → d ≤ h + 11 → 12 * a + d < 12 * e + h
    sums a d e h p r = omega arith

pub charge-lowered : (w v : State) → faults_left v + marks_left v ≤ faults_left w + marks_left w → room_left v ≤ room_left w → potentials v < potentials w → charge v < charge w
unfolding charge
charge-lowered w v left room all = sums (faults_left v) (marks_left v) (room_left v) (potentials v) (faults_left w) (marks_left w) (room_left w) (potentials w) left room all
  where
    sums : (a b c d e f g h : ℕ) → a + b ≤ e + f → c ≤ g → d < h → 12 * (a + b + c) + d < 12 * (e + f + g) + h
    sums a b c d e f g h p q r = omega arith

-- potentials, stream by stream
pub potentials-stay : (w v : State) → length v.streams ≡ length w.streams → ((s : ℕ) → s < length w.streams → potential_at v s ≤ potential_at w s) → potentials v ≤ potentials w
potentials-stay w v as_many each =
    subst (λ (n : ℕ). sum_below (potential_at v) n ≤ potentials w) (sym as_many) (sum-le (potential_at w) (potential_at v) (length w.streams) each)

pub potentials-rise : (w v : State) (s : ℕ) → length v.streams ≡ length w.streams → ((t : ℕ) → t < length w.streams → (t ≡ s → ⊥) → potential_at v t ≤ potential_at w t) → (s < length w.streams → potential_at v s ≤ 11) →
    potentials v ≤ potentials w + 11
potentials-rise w v s as_many each here =
    subst (λ (n : ℕ). sum_below (potential_at v) n ≤ potentials w + 11) (sym as_many)
    (sum-more (potential_at w) (potential_at v) (length w.streams) s 11 each (λ there. low (potential_at v s) (potential_at w s) (here there)))
  where
    low : (a b : ℕ) → a ≤ 11 → a ≤ b + 11
    low a b le = omega arith

pub potentials-fall : (w v : State) (s : ℕ) → length v.streams ≡ length w.streams → s < length w.streams → ((t : ℕ) → t < length w.streams → (t ≡ s → ⊥) → potential_at v t ≤ potential_at w t) → potential_at v s < potential_at w s →
    potentials v < potentials w
potentials-fall w v s as_many there each here =
    subst (λ (n : ℕ). sum_below (potential_at v) n < potentials w) (sym as_many)
    (less (sum_below (potential_at v) (length w.streams)) (potentials w)
    (sum-less (potential_at w) (potential_at v) (length w.streams) s 1 there each (one (potential_at v s) (potential_at w s) here)))
  where
    less : (a b : ℕ) → a + 1 ≤ b → a < b
    less a b le = omega arith

    one : (a b : ℕ) → a < b → a + 1 ≤ b
    one a b lt = omega arith
