-- Whole runs of a plan end, and each for its cause.
use Rattle.std.proofs.Common.{◌≡◌, ℕ, zero, suc, ◌≤◌, ◌<◌, ◌⊎◌, inl, inr, Bool, true, false, IsTrue, List, [], ◌∷◌, length, refl, sym, ◌∙◌, ap, subst, arith, if◌then◌else◌}
use Rattle.std.proofs.lemmas.Bool.{and_parts, both_ways, cases_Bool}
use Rattle.std.specs.Prelude.{slice_index_or}
use Rattle.std.specs.List.{AllByRecursion}
use Rattle.chdr_words.specs.declared.command.CmdOp.{CmdOp}
use Rattle.stream_endpoint.specs.declared.flow.Policy.{Policy}
use Rattle.stream_endpoint.specs.declared.flow.Policy.TheVariants.{Auto, Off}
use Rattle.net_machine.specs.declared.event.Event.{Event}
use Rattle.net_machine.specs.declared.event.Event.TheVariants as event
use Rattle.net_machine.specs.declared.plan.RunPlan.{RunPlan}
use Rattle.net_machine.specs.declared.plan.StreamPlan.{StreamPlan}
use Rattle.net_machine.specs.declared.tally.StreamEnd.TheVariants.{Drained}
use Rattle.net_machine.specs.Begin.{begun}
use Rattle.net_machine.specs.Blocks.{is_drained}
use Rattle.net_machine.specs.Conditions.{can_order, enabled, has_place_from, may}
use Rattle.net_machine.specs.Effects.{after}
use Rattle.net_machine.specs.Front.{front}
use Rattle.net_machine.specs.Moves.{Happens, IsLegal, IsStill, moves_of}
use Rattle.net_machine.specs.Plans.{no_stream, plan_at}
use Rattle.net_machine.specs.Queues.{forward_vc}
use Rattle.net_machine.specs.State.{State, stream_at}
use Rattle.net_machine.specs.Tallies.{acked_of, end_of, undrained}
use Rattle.net_machine.proofs.Laws.{shapes_stay}
use Rattle.net_flows.proofs.Laws.{unseen_goes_on}
use Rattle.net_lawful.specs.Lawful.{Lawful}
use Rattle.net_lawful.specs.Walking.{AreLed}
use Rattle.net_lawful.proofs.Laws.{all_are_lawful, begun_is_lawful, lawful_stays, stilled_is_unseen}
use Rattle.net_weights.specs.Charge.{weight}
use Rattle.net_weights.proofs.Laws.{led_weight_falls, weight_falls}
use Rattle.net_ends.specs.Complete.{IsAtPlainEnd}
use Rattle.net_ends.specs.Rest.{HasCause, NoneIsLost}
use Rattle.net_ends.proofs.Laws.{all_end_plain, ends_have_causes, lines_are_plain, made_is_bounded}
use Rattle.net_runs.specs.Lossless.{IsAuto, ResynchronisingRunsDrain}
use Rattle.net_runs.specs.Runs.{IsRunOf, LawfulWeightFalls, LegalJournalsEnd, WholeRunsEnd, WholeRunsEndPlain}
use Rattle.net_runs.proofs.Lasting.{begun-lost, journal-lost, journal-walked}

-- ---- journals

no-order : (w : State) (s : ℕ) (op : CmdOp) → can_order (front w) s op ≡ false → IsTrue (enabled w (event.Command s op)) → ⊥
unfolding may
no-order w s op none may_it = both_ways (can_order (front w) s op) none (and_parts (can_order (front w) s op) (has_place_from (front w) forward_vc (plan_at w.plan s).from) may_it).0

pub lawful-falls : LawfulWeightFalls
lawful-falls w e lawful may_it = by_walked w.walked refl
  where
    by_walked : (b : Bool) → w.walked ≡ b → weight (after w e) < weight w
    by_walked false is =
        let led = lawful.led is in led_weight_falls w e lawful.steady led.ways led.placed (made_is_bounded w lawful.steady lawful.makes) may_it
    by_walked true is =
        let stilled = lawful.stilled is in
        weight_falls w e (record { steady = lawful.steady; bounded = made_is_bounded w lawful.steady lawful.makes; ways = λ s op gives. absurd (no-order w s op (stilled.orders s op) gives) })
        (lawful_stays w (Happens e) lawful may_it).steady (unseen_goes_on w (after w e) (stilled_is_unseen w e lawful.steady stilled may_it)) may_it

pub legal-end : LegalJournalsEnd
unfolding IsLegal
legal-end w [] lawful legal = omega arith
legal-end w (e ∷ journal) lawful legal =
    sums (length journal) (weight (after w e)) (weight w) (legal-end (after w e) journal (lawful_stays w (Happens e) lawful legal.0) legal.1) (lawful-falls w e lawful legal.0)
  where
    sums : (n a b : ℕ) → n ≤ a → a < b → suc n ≤ b
    sums n a b rest falls = omega arith

-- ---- the end of a whole run

-- what is so in the end
record IsEnd (end_ : State) : Type 0 where
  lawful : Lawful end_
  led : AreLed end_
  still : IsStill end_

ends-so : (plan : RunPlan) (w : State) (journal : List Event) (end_ : State) → IsRunOf plan w journal end_ → IsEnd end_
ends-so plan w journal end_ run =
    let lawful : Lawful end_ = subst Lawful run.leaves (all_are_lawful (begun plan w) (moves_of journal) (begun_is_lawful plan w run.lawful run.rest run.can) run.whole.legal) in
    record {
      lawful = lawful;
      led = lawful.led (sym (ap (λ (v : State). v.walked) run.leaves) ∙ journal-walked (begun plan w) journal);
      still = subst IsStill run.leaves run.whole.still;
    }

drained-end : (w : State) (s : ℕ) → is_drained (front w) s ≡ true → end_of w s ≡ Drained
drained-end w s is =
    ap (λ (b : Bool). if b then Drained else undrained (stream_at w s).receiver.broken (length (stream_at w s).sent) (acked_of (plan_at w.plan s) (stream_at w s))) is

pub whole-end : WholeRunsEnd
whole-end plan w journal end_ run s there ends = by_test (cases_Bool (is_drained (front end_) s))
  where
    at : IsEnd end_
    at = ends-so plan w journal end_ run

    by_test : (is_drained (front end_) s ≡ true) ⊎ (is_drained (front end_) s ≡ false) → HasCause end_ s
    by_test (inl is) = absurd (ends (drained-end end_ s is))
    by_test (inr fails) = ends_have_causes end_ at.lawful.steady at.led.ways at.still s there fails

resynchronises : (streams : List StreamPlan) (n : ℕ) → AllByRecursion IsAuto streams → n < length streams → IsAuto (slice_index_or streams n no_stream)
resynchronises [] n each there = absurd (omega arith)
resynchronises (s ∷ ss) zero each there = each.0
resynchronises (s ∷ ss) (suc n) each there = resynchronises ss n each.1 (omega arith)

both-policies : {P : Type 0} (policy : Policy) → policy ≡ Auto → policy ≡ Off → P
both-policies Auto auto off = absurd cc
both-policies Off auto off = absurd cc

pub resynchronising-drain : ResynchronisingRunsDrain
resynchronising-drain plan w journal end_ run autos s there = by_test (cases_Bool (is_drained (front end_) s))
  where
    at : IsEnd end_
    at = ends-so plan w journal end_ run

    same : end_.plan ≡ plan
    same = sym (ap (λ (v : State). v.plan) run.leaves) ∙ (shapes_stay (begun plan w) (moves_of journal)).plan

    as_many : length end_.streams ≡ length plan.streams
    as_many = at.lawful.steady.as_many ∙ ap (λ (p : RunPlan). length p.streams) same

    no-cause : HasCause end_ s → ⊥
    no-cause cause =
        let below : cause.stream < length plan.streams = subst (λ (n : ℕ). cause.stream < n) as_many cause.there in
        let auto : (plan_at end_.plan cause.stream).policy ≡ Auto =
        subst (λ (p : RunPlan). (plan_at p cause.stream).policy ≡ Auto) (sym same) (resynchronises plan.streams cause.stream autos below) in
        both-policies (plan_at end_.plan cause.stream).policy auto cause.off

    by_test : (is_drained (front end_) s ≡ true) ⊎ (is_drained (front end_) s ≡ false) → end_of end_ s ≡ Drained
    by_test (inl is) = drained-end end_ s is
    by_test (inr fails) = absurd (no-cause (ends_have_causes end_ at.lawful.steady at.led.ways at.still s there fails))

pub whole-end_plain : WholeRunsEndPlain
whole-end_plain plan w journal end_ run none =
    let at = ends-so plan w journal end_ run in
    let lost : NoneIsLost end_ = λ s there. sym (ap (λ (v : State). (stream_at v s).lost) run.leaves) ∙ journal-lost (begun plan w) journal none s ∙ begun-lost plan w s in
    let plain_end : IsAtPlainEnd end_ = record { steady = at.lawful.steady; ways = at.led.ways; made = at.lawful.makes; still = at.still; none_lost = lost } in
    record {
      same = sym (ap (λ (v : State). v.plan) run.leaves) ∙ (shapes_stay (begun plan w) (moves_of journal)).plan;
      streams = all_end_plain end_ plain_end;
      lines = lines_are_plain end_ plain_end;
    }
