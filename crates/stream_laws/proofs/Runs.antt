-- What was sent and is ready is what was made, for any list of acts; and each test tells its condition.
use Rattle.std.proofs.Common.{◌≡◌, ◌⊎◌, inl, inr, IsTrue, ℕ, Bool, true, false, not, ◌&&◌, ◌==◌, List, [], ◌∷◌, ◌++◌, length, append-nil, append_assoc, refl, sym, ◌∙◌, ap, eq-eqb, eqb-true}
use Rattle.chdr_words.specs.declared.command.CmdOp.{CmdOp}
use Rattle.chdr_words.specs.declared.command.CmdOp.TheVariants.{Init, Ping, Resync, Other}
use Rattle.stream_endpoint.specs.Orders.{MayOrder as MayOrderWhen}
use Rattle.stream_endpoint.specs.Receiver.{is_due}
use Rattle.stream_endpoint.specs.Sender.{Sender}
use Rattle.endpoint_laws.proofs.Laws.{order_is_tested as order_is_tested_when, stuck_is_tested as stuck_is_tested_at}
use Rattle.stream_laws.specs.Machine.{Load, State, Terms}
use Rattle.stream_laws.specs.Acts.{Act, Allowed, after, is_empty, is_quiet, is_stuck, next_wire, Fill, Close, Enter, Order, Keep, Break, Discard, Obey, Renew, Take, Report, Hear, LosePacket, LoseCommand, LoseStatus}
use Rattle.stream_laws.specs.Runs.{OrderIsTested, QuietIsTested, SendsWhatWasMade, StuckIsTested, made, made_by}

-- sent and ready, end to end
abbrev all_of : {A : Type 0} → State A → List (Load A)
all_of st = st.core.sent ++ st.core.ready

made_now : {A : Type 0} (terms : Terms) (st : State A) (act : Act A) → Allowed terms st act
    → all_of (after terms st act) ≡ all_of st ++ made_by act
made_now terms st (Fill loads) allowed = sym (append_assoc st.core.sent st.core.ready loads)
made_now terms st Close allowed = sym (append-nil (all_of st))
made_now terms st (Enter load rest) allowed =
    append_assoc st.core.sent (load ∷ []) rest
    ∙ (ap (λ loads. st.core.sent ++ loads) (sym allowed.0) ∙ sym (append-nil (all_of st)))
made_now terms st (Order op) allowed = sym (append-nil (all_of st))
made_now terms st (Keep place load rest) allowed = sym (append-nil (all_of st))
made_now terms st (Break place load rest) allowed = sym (append-nil (all_of st))
made_now terms st (Discard place load rest) allowed = sym (append-nil (all_of st))
made_now terms st (Obey op told rest) allowed = sym (append-nil (all_of st))
made_now terms st (Renew told rest) allowed = sym (append-nil (all_of st))
made_now terms st (Take n) allowed = sym (append-nil (all_of st))
made_now terms st Report allowed = sym (append-nil (all_of st))
made_now terms st (Hear status rest) allowed = sym (append-nil (all_of st))
made_now terms st (LosePacket before place load behind) allowed = sym (append-nil (all_of st))
made_now terms st (LoseCommand before op told behind) allowed = sym (append-nil (all_of st))
made_now terms st (LoseStatus before status behind) allowed = sym (append-nil (all_of st))

pub sends_what_was_made : {A : Type 0} → SendsWhatWasMade A
sends_what_was_made terms st [] legal = sym (append-nil (all_of st))
sends_what_was_made terms st (act ∷ acts) legal =
    sends_what_was_made terms (after terms st act) acts legal.1
    ∙ (ap (λ loads. loads ++ made acts) (made_now terms st act legal.0)
    ∙ append_assoc (all_of st) (made_by act) (made acts))

record Parts {X Y : Type 0} (xs : List X) (ys : List Y) (due : Bool) (n m : ℕ) : Type 0 where
  first : xs ≡ []
  second : ys ≡ []
  third : due ≡ false
  fourth : n ≡ m

parts : {X Y : Type 0} (xs : List X) (ys : List Y) (due : Bool) (n m : ℕ)
    → IsTrue (is_empty xs && (is_empty ys && (not due && (n == m)))) → Parts xs ys due n m
parts [] [] false n m t = record { first = refl; second = refl; third = refl; fourth = eqb-true n m t }
parts [] [] true n m t = absurd (cc t)
parts [] (y ∷ ys) due n m t = absurd (cc t)
parts (x ∷ xs) ys due n m t = absurd (cc t)

together : {X Y : Type 0} (xs : List X) (ys : List Y) (due : Bool) (n m : ℕ)
    → xs ≡ [] → ys ≡ [] → due ≡ false → n ≡ m → IsTrue (is_empty xs && (is_empty ys && (not due && (n == m))))
together [] [] false n m a b c d = eq-eqb n m d
together [] [] true n m a b c d = absurd (cc c)
together [] (y ∷ ys) due n m a b c d = absurd (cc b)
together (x ∷ xs) ys due n m a b c d = absurd (cc a)

pub quiet_is_tested : {A : Type 0} → QuietIsTested A
quiet_is_tested st = (
  (λ t. (
      let all = parts st.forward st.back (is_due st.core.receiver) st.core.taken (length st.core.given) t in
      record { none_forward = all.first; none_back = all.second; none_due = all.third; all_taken = all.fourth }
      )),
  (λ quiet. together st.forward st.back (is_due st.core.receiver) st.core.taken (length st.core.given)
      quiet.none_forward quiet.none_back quiet.none_due quiet.all_taken),
)

pub stuck_is_tested : {A : Type 0} → StuckIsTested A
stuck_is_tested terms st =
    stuck_is_tested_at terms.flow st.core.sender.outstanding st.core.closed (next_wire st.core.ready)

-- the conditions of a command follow what being quiet and stuck mean
either : {P Q R : Type 0} → (Q → R) → P ⊎ Q → P ⊎ R
either f (inl p) = inl p
either f (inr q) = inr (f q)

order_along : (s : Sender) (Quiet Stuck Still Fixed : Type 0) (op : CmdOp) → (Quiet → Still) → (Stuck → Fixed)
    → MayOrderWhen s Quiet Stuck op → MayOrderWhen s Still Fixed op
order_along s Quiet Stuck Still Fixed Init f g may = (may.0, either f may.1)
order_along s Quiet Stuck Still Fixed Ping f g may =
    record { running = may.running; quiet = f may.quiet; not_covered = may.not_covered; stuck = g may.stuck }
order_along s Quiet Stuck Still Fixed Resync f g may = (may.0, either f may.1)
order_along s Quiet Stuck Still Fixed (Other code) f g may = may

pub order_is_tested : {A : Type 0} → OrderIsTested A
order_is_tested terms st op =
    let when = order_is_tested_when st.core.sender (is_quiet st) (is_stuck terms st) op in
    let quiet = quiet_is_tested st in
    let stuck = stuck_is_tested terms st in (
      (λ t. order_along st.core.sender _ _ _ _ op quiet.0 stuck.0 (when.0 t)),
      (λ may. when.1 (order_along st.core.sender _ _ _ _ op quiet.1 stuck.1 may)),
    )
