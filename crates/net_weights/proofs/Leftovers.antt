-- How the faults and the packets that are left follow what enters.
use Rattle.std.proofs.Common.{◌≡◌, ℕ, ◌+◌, ◌-◌, ◌≤◌, ◌<◌, Bool, true, false, cond, ◌||◌, List, [], ◌∷◌, length, refl, sym, ◌∙◌, ap, subst, arith, count_by, eqb-true, le-leb, leb-true, if◌then◌else◌, ◌==◌, ◌&&◌, nat_le}
use Rattle.std.proofs.lemmas.Bool.{and_parts}
use Rattle.std.proofs.lemmas.List.Sums.{sum_by-cons}
use Rattle.net_faults.specs.declared.fault.Fault.{Fault}
use Rattle.net_faults.specs.declared.fault.Fault.TheVariants.{Samples, Status, Command, Request, Answer}
use Rattle.net_machine.specs.CanBegin.{bound_of}
use Rattle.net_machine.specs.Faults.{is_named, names_same}
use Rattle.net_machine.specs.declared.plan.RunPlan.{RunPlan}
use Rattle.net_machine.specs.State.{State, Stream, stream_at}
use Rattle.net_weights.specs.Charge.{faults_left, is_left, room_left, room_on}
use Rattle.net_weights.specs.Sums.{sum_below}
use Rattle.net_weights.proofs.Sums.{sum-le, sum-less}

-- what entered stays so
pub record HasCounts (old new : Stream) : Type 0 where
  pub sent : length old.sent ≤ length new.sent
  pub statuses : old.statuses ≤ new.statuses
  pub commands : old.commands ≤ new.commands

pub record HasGrown (w v : State) : Type 0 where
  pub streams : (t : ℕ) → HasCounts (stream_at w t) (stream_at v t)
  pub requests : w.requests ≤ v.requests
  pub answers : w.answers ≤ v.answers
  pub faults : v.faults ≡ w.faults

left-before : (a b k : ℕ) → a ≤ b → (nat_le b k) ≡ true → nat_le a k ≡ true
left-before a b k le is = let high = leb-true b k is in le-leb a k (omega arith)

-- a fault that is left was left before
left-mono : (w v : State) → HasGrown w v → (x : Fault) → is_left v x ≡ true → is_left w x ≡ true
left-mono w v grown (Samples s k) is = left-before (length (stream_at w s).sent) (length (stream_at v s).sent) k (grown.streams s).sent is
left-mono w v grown (Status s k) is = left-before (stream_at w s).statuses (stream_at v s).statuses k (grown.streams s).statuses is
left-mono w v grown (Command s k) is = left-before (stream_at w s).commands (stream_at v s).commands k (grown.streams s).commands is
left-mono w v grown (Request k) is = left-before w.requests v.requests k grown.requests is
left-mono w v grown (Answer k) is = left-before w.answers v.answers k grown.answers is

-- ---- names

both-same : (a b c d : ℕ) → ((a == b) && (c == d)) ≡ true → (a ≡ b) × (c ≡ d)
both-same a b c d is = let parts = and_parts (a == b) (c == d) is in (eqb-true a b parts.0, eqb-true c d parts.1)

never : {A : Type 0} → false ≡ true → A
never h = cc

-- both faults are one
same-name : (x y : Fault) → names_same x y ≡ true → y ≡ x
same-name (Samples s k) (Samples t j) is = let e = both-same t s j k is in ap (λ (n : ℕ). Samples n j) e.0 ∙ ap (Samples s) e.1
same-name (Samples s k) (Status t j) is = never is
same-name (Samples s k) (Command t j) is = never is
same-name (Samples s k) (Request j) is = never is
same-name (Samples s k) (Answer j) is = never is
same-name (Status s k) (Samples t j) is = never is
same-name (Status s k) (Status t j) is = let e = both-same t s j k is in ap (λ (n : ℕ). Status n j) e.0 ∙ ap (Status s) e.1
same-name (Status s k) (Command t j) is = never is
same-name (Status s k) (Request j) is = never is
same-name (Status s k) (Answer j) is = never is
same-name (Command s k) (Samples t j) is = never is
same-name (Command s k) (Status t j) is = never is
same-name (Command s k) (Command t j) is = let e = both-same t s j k is in ap (λ (n : ℕ). Command n j) e.0 ∙ ap (Command s) e.1
same-name (Command s k) (Request j) is = never is
same-name (Command s k) (Answer j) is = never is
same-name (Request k) (Samples t j) is = never is
same-name (Request k) (Status t j) is = never is
same-name (Request k) (Command t j) is = never is
same-name (Request k) (Request j) is = ap Request (eqb-true j k is)
same-name (Request k) (Answer j) is = never is
same-name (Answer k) (Samples t j) is = never is
same-name (Answer k) (Status t j) is = never is
same-name (Answer k) (Command t j) is = never is
same-name (Answer k) (Request j) is = never is
same-name (Answer k) (Answer j) is = ap Answer (eqb-true j k is)

-- ---- counts

one-test : (a b : Bool) → (a ≡ true → b ≡ true) → cond a 1 0 ≤ cond b 1 0
one-test true true h = omega arith
one-test true false h = never (h refl)
one-test false b h = omega arith

count-mono : (f g : Fault → Bool) (xs : List Fault) → ((x : Fault) → g x ≡ true → f x ≡ true) → count_by g xs ≤ count_by f xs
count-mono f g [] each = omega arith
count-mono f g (x ∷ xs) each =
    let rest = count-mono f g xs each in let here = one-test (g x) (f x) (each x) in
    sums (count_by g (x ∷ xs)) (count_by f (x ∷ xs)) (cond (g x) 1 0) (cond (f x) 1 0) (count_by g xs) (count_by f xs)
    (sum_by-cons (λ (y : Fault). cond (g y) 1 0) x xs) (sum_by-cons (λ (y : Fault). cond (f y) 1 0) x xs) here rest
  where
    sums : (all old a b m n : ℕ) → all ≡ a + m → old ≡ b + n → a ≤ b → m ≤ n → all ≤ old
    sums all old a b m n is was le less = omega arith

-- the name that is used up is counted no more
count-named : (f g : Fault → Bool) (name : Fault) (xs : List Fault) → ((x : Fault) → g x ≡ true → f x ≡ true) → g name ≡ false → f name ≡ true →
    count_by g xs + (if is_named xs name then 1 else 0) ≤ count_by f xs
count-named f g name [] each used left = omega arith
count-named f g name (x ∷ xs) each used left =
    by_test (names_same name x) refl (count-named f g name xs each used left)
  where
    gs : count_by g (x ∷ xs) ≡ cond (g x) 1 0 + count_by g xs
    gs = sum_by-cons (λ (y : Fault). cond (g y) 1 0) x xs

    fs : count_by f (x ∷ xs) ≡ cond (f x) 1 0 + count_by f xs
    fs = sum_by-cons (λ (y : Fault). cond (f y) 1 0) x xs

    by_test : (b : Bool) → names_same name x ≡ b → count_by g xs + (if is_named xs name then 1 else 0) ≤ count_by f xs →
        count_by g (x ∷ xs) + (if b || is_named xs name then 1 else 0) ≤ count_by f (x ∷ xs)
    by_test true is rest =
        let same = same-name name x is in
        let gone : cond (g x) 1 0 ≡ 0 = ap (λ (y : Fault). cond (g y) 1 0) same ∙ ap (λ (b : Bool). cond b 1 0) used in
        let here : cond (f x) 1 0 ≡ 1 = ap (λ (y : Fault). cond (f y) 1 0) same ∙ ap (λ (b : Bool). cond b 1 0) left in
        sums (count_by g (x ∷ xs)) (count_by f (x ∷ xs)) (cond (g x) 1 0) (cond (f x) 1 0) (count_by g xs) (count_by f xs) (if is_named xs name then 1 else 0) gs fs gone here rest
      where
        sums : (all old a b m n k : ℕ) → all ≡ a + m → old ≡ b + n → a ≡ 0 → b ≡ 1 → m + k ≤ n → all + 1 ≤ old
        sums all old a b m n k is was gone here less = omega arith
    by_test false is rest =
        sums (count_by g (x ∷ xs)) (count_by f (x ∷ xs)) (cond (g x) 1 0) (cond (f x) 1 0) (count_by g xs) (count_by f xs) (if is_named xs name then 1 else 0) gs fs (one-test (g x) (f x) (each x)) rest
      where
        sums : (all old a b m n k : ℕ) → all ≡ a + m → old ≡ b + n → a ≤ b → m + k ≤ n → all + k ≤ old
        sums all old a b m n k is was here less = omega arith

pub faults-stay : (w v : State) → HasGrown w v → faults_left v ≤ faults_left w
faults-stay w v grown =
    subst (λ (xs : List Fault). count_by (is_left v) xs ≤ faults_left w) (sym grown.faults) (count-mono (is_left w) (is_left v) w.faults (left-mono w v grown))

pub faults-named : (w v : State) (name : Fault) → HasGrown w v → is_left v name ≡ false → is_left w name ≡ true → faults_left v + (if is_named w.faults name then 1 else 0) ≤ faults_left w
faults-named w v name grown used left =
    subst (λ (xs : List Fault). count_by (is_left v) xs + (if is_named w.faults name then 1 else 0) ≤ faults_left w) (sym grown.faults)
    (count-named (is_left w) (is_left v) name w.faults (left-mono w v grown) used left)

-- ---- packets that may still be sent

room-mono : (w v : State) → v.plan ≡ w.plan → HasGrown w v → (s : ℕ) → room_on v s ≤ room_on w s
room-mono w v plan grown s =
    let bound = ap (λ (p : RunPlan). bound_of p s) plan in let sent = (grown.streams s).sent in
    less (bound_of v.plan s) (bound_of w.plan s) (length (stream_at v s).sent) (length (stream_at w s).sent) bound sent
  where
    less : (a b m n : ℕ) → a ≡ b → n ≤ m → a - m ≤ b - n
    less a b m n is le = omega arith

pub room-stays : (w v : State) → v.plan ≡ w.plan → length v.streams ≡ length w.streams → HasGrown w v → room_left v ≤ room_left w
room-stays w v plan as_many grown =
    subst (λ (n : ℕ). sum_below (room_on v) n ≤ room_left w) (sym as_many) (sum-le (room_on w) (room_on v) (length w.streams) (λ k lt. room-mono w v plan grown k))

pub room-used : (w v : State) (s : ℕ) → v.plan ≡ w.plan → length v.streams ≡ length w.streams → HasGrown w v → s < length w.streams → length (stream_at v s).sent ≡ length (stream_at w s).sent + 1 → length (stream_at w s).sent < bound_of w.plan s →
    room_left v + 1 ≤ room_left w
room-used w v s plan as_many grown there one bounded =
    subst (λ (n : ℕ). sum_below (room_on v) n + 1 ≤ room_left w) (sym as_many)
    (sum-less (room_on w) (room_on v) (length w.streams) s 1 there (λ k lt ne. room-mono w v plan grown k)
    (less (bound_of v.plan s) (bound_of w.plan s) (length (stream_at v s).sent) (length (stream_at w s).sent) (ap (λ (p : RunPlan). bound_of p s) plan) one bounded))
  where
    less : (a b m n : ℕ) → a ≡ b → m ≡ n + 1 → n < b → a - m + 1 ≤ b - n
    less a b m n is one lt = omega arith
