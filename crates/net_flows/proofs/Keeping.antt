-- What a change of a network keeps of each stream: its run, the form of its packets, and what its entries tell.
use Rattle.std.proofs.Common.{◌≡◌, ◌≢◌, ℕ, ◌==◌, Bool, true, false, IsTrue, refl, sym, ◌∙◌, ap, subst, get_or, set, inl, inr}
use Rattle.std.specs.Prelude.{Option, Some, not}
use Rattle.std.specs.List.{AllByRecursion, list_all}
use Rattle.std.specs.Option.{option_map_or}
use Rattle.std.proofs.lemmas.Bool.{cases_Bool, eqb-true}
use Rattle.rf_base.proofs.Places.{one-set}
use Rattle.chdr_packets.specs.declared.packet.Body.{Body}
use Rattle.chdr_packets.specs.declared.packet.Body.TheVariants as body
use Rattle.chdr_words.specs.declared.epid.Epid.{Epid}
use Rattle.net_machine.specs.declared.plan.RunPlan.{RunPlan}
use Rattle.net_machine.specs.declared.plan.StreamPlan.{StreamPlan}
use Rattle.net_machine.specs.Blocks.{has_packet}
use Rattle.net_machine.specs.Plans.{block_at, is_tx, plan_at, stream_from, stream_to}
use Rattle.net_machine.specs.State.{Entry, State, Stream, idle, queue_at, stream_at}
use Rattle.net_ways.specs.Hops.{GoesAhead, GoesBack, IsUnseen}
use Rattle.net_ways.specs.Standing.{IsMessage}
use Rattle.net_ways.specs.Unseen.{IsForeign}
use Rattle.net_ways.specs.Ways.{is_ahead, is_back}
use Rattle.net_flows.specs.Forms.{HasForm, Tells}
use Rattle.net_flows.proofs.Closing.{all-more, some-more}
use Rattle.net_flows.proofs.Following.{FlowsTo, none-flows}

-- nothing is ready on the stream that begins at an EPID
abbrev pub clear_in : RunPlan → State → Epid → Bool
clear_in plan v epid = option_map_or (λ s. not (has_packet (stream_at v s).ready)) (stream_from plan epid) false

-- each entry of each queue tells what its body asks, by this plan
abbrev pub TellingBy : RunPlan → State → Type 0
TellingBy plan v = (q : ℕ) → AllByRecursion (λ (e : Entry). Tells plan e e.packet.body) (queue_at v.queues q)

-- a change from w to v that an event may make
pub record Steps (w v : State) : Type 0 where
  pub flows : FlowsTo w v
  pub telling : TellingBy w.plan v
  pub forms : (s : ℕ) → HasForm w.plan s (stream_at w s) → HasForm w.plan s (stream_at v s)
  pub used_up : (b : ℕ) → IsTrue (is_tx (block_at w.plan b).kind) → IsTrue (list_all (clear_in w.plan w) (block_at w.plan b).outs) →
      IsTrue (list_all (clear_in w.plan v) (block_at w.plan b).outs)

-- a stream keeps its form, and nothing becomes ready
pub record KeepsForm (plan : RunPlan) (s : ℕ) (old new : Stream) : Type 0 where
  pub form : HasForm plan s old → HasForm plan s new
  pub clear : IsTrue (not (has_packet old.ready)) → IsTrue (not (has_packet new.ready))

pub kept-self : (plan : RunPlan) (s : ℕ) (st : Stream) → KeepsForm plan s st st
kept-self plan s st = record { form = λ h. h; clear = λ h. h }

pub kept-same : (plan : RunPlan) (s : ℕ) (old new : Stream) → new.ready ≡ old.ready → new.given ≡ old.given → KeepsForm plan s old new
kept-same plan s old new ready given = record {
  form = λ h. record { ready = rw ready h.ready; given = rw given h.given };
  clear = λ h. rw ready h;
}

pub kept-unseen : (w v : State) (s : ℕ) → IsUnseen w v s → KeepsForm w.plan s (stream_at w s) (stream_at v s)
kept-unseen w v s unseen = subst (KeepsForm w.plan s (stream_at w s)) (sym unseen.stream) (kept-self w.plan s (stream_at w s))

-- stream t changes
pub kept-on : (w : State) (t : ℕ) (next : Stream → Stream) → KeepsForm w.plan t (stream_at w t) (next (stream_at w t)) →
    (s : ℕ) → KeepsForm w.plan s (stream_at w s) (get_or (set w.streams t (next (stream_at w t))) s idle)
kept-on w t next here =
    one-set {B = Stream} (λ s new old. KeepsForm w.plan s old new) w.streams w.streams idle idle (next (stream_at w t)) t (λ s. kept-self w.plan s (stream_at w s)) here

pub steps-kept : (w v : State) → FlowsTo w v → TellingBy w.plan v → ((s : ℕ) → KeepsForm w.plan s (stream_at w s) (stream_at v s)) → Steps w v
steps-kept w v flows telling kept = record {
  flows = flows;
  telling = telling;
  forms = λ s. (kept s).form;
  used_up = λ b tx. all-more (clear_in w.plan w) (clear_in w.plan v) (block_at w.plan b).outs
      (λ e. some-more (λ s. not (has_packet (stream_at w s).ready)) (λ s. not (has_packet (stream_at v s).ready)) (stream_from w.plan e) (λ s. (kept s).clear));
}

-- no stream sees the change
pub steps-unseen : (w v : State) → ((s : ℕ) → IsUnseen w v s) → TellingBy w.plan v → Steps w v
steps-unseen w v unseen telling =
    steps-kept w v (none-flows _ w v (λ s there. unseen s)) telling (λ s. kept-unseen w v s (unseen s))

pub steps-self : (w : State) → TellingBy w.plan w → Steps w w
steps-self w telling = steps-unseen w w (λ s. record { plan = refl; tree = refl; stream = refl; ahead = refl; back = refl }) telling

-- ---- entries of other streams

pub some-same : {x y : ℕ} → ◌≡◌ {A = Option ℕ} (Some x) (Some y) → x ≡ y
some-same e = cc

abbrev epid_of : ℕ → Epid
epid_of n = record { 0 = n }

pub same-epid : (a b : Epid) → (a.0 == b.0) ≡ true → a ≡ b
same-epid a b same = ap epid_of (eqb-true a.0 b.0 same)

-- an EPID of stream s isn't that of another stream t, on the side that finds both
elsewhere : (find : Epid → Option ℕ) (dst own : Epid) (s t : ℕ) → find dst ≡ Some s → find own ≡ Some t → t ≢ s → (dst.0 == own.0) ≡ false
elsewhere find dst own s t mine its other =
    elim (cases_Bool (dst.0 == own.0)) [
      | inl same ↦ absurd (other (some-same (sym its ∙ ap find (sym (same-epid dst own same)) ∙ mine)))
      | inr differs ↦ differs
    ]

not-ahead : (plan : StreamPlan) (dst : Epid) (b : Body) → GoesAhead b → (dst.0 == plan.to.0) ≡ false → (is_ahead plan dst b ≡ false) × (is_back plan dst b ≡ false)
not-ahead plan dst (body.Samples time payload) goes differs = (differs, refl)
not-ahead plan dst (body.Command c) goes differs = (differs, refl)
not-ahead plan dst (body.Status status) goes differs = absurd goes
not-ahead plan dst (body.Control control) goes differs = absurd goes
not-ahead plan dst (body.Management m) goes differs = absurd goes

not-back : (plan : StreamPlan) (dst : Epid) (b : Body) → GoesBack b → (dst.0 == plan.from.0) ≡ false → (is_ahead plan dst b ≡ false) × (is_back plan dst b ≡ false)
not-back plan dst (body.Samples time payload) goes differs = absurd goes
not-back plan dst (body.Command c) goes differs = absurd goes
not-back plan dst (body.Status status) goes differs = (refl, differs)
not-back plan dst (body.Control control) goes differs = absurd goes
not-back plan dst (body.Management m) goes differs = absurd goes

not-message : (plan : StreamPlan) (dst : Epid) (b : Body) → IsMessage b → (is_ahead plan dst b ≡ false) × (is_back plan dst b ≡ false)
not-message plan dst (body.Samples time payload) kind = absurd kind
not-message plan dst (body.Command c) kind = absurd kind
not-message plan dst (body.Status status) kind = absurd kind
not-message plan dst (body.Control control) kind = (refl, refl)
not-message plan dst (body.Management m) kind = (refl, refl)

pub foreign-to : (plan : RunPlan) (s t : ℕ) (e : Entry) → GoesAhead e.packet.body → stream_to plan e.packet.dst ≡ Some s → stream_to plan (plan_at plan t).to ≡ Some t → t ≢ s →
    IsForeign (plan_at plan t) e
foreign-to plan s t e goes mine its other =
    let differs = not-ahead (plan_at plan t) e.packet.dst e.packet.body goes (elsewhere (stream_to plan) e.packet.dst (plan_at plan t).to s t mine its other) in
    record { ahead = differs.0; back = differs.1 }

pub foreign-from : (plan : RunPlan) (s t : ℕ) (e : Entry) → GoesBack e.packet.body → stream_from plan e.packet.dst ≡ Some s → stream_from plan (plan_at plan t).from ≡ Some t → t ≢ s →
    IsForeign (plan_at plan t) e
foreign-from plan s t e goes mine its other =
    let differs = not-back (plan_at plan t) e.packet.dst e.packet.body goes (elsewhere (stream_from plan) e.packet.dst (plan_at plan t).from s t mine its other) in
    record { ahead = differs.0; back = differs.1 }

pub foreign-message : (plan : StreamPlan) (e : Entry) → IsMessage e.packet.body → IsForeign plan e
foreign-message plan e kind = let differs = not-message plan e.packet.dst e.packet.body kind in record { ahead = differs.0; back = differs.1 }
