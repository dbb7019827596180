-- What is finished stays finished, for every bound.
use Rattle.std.proofs.Common.{◌≡◌, ℕ, zero, suc, ◌+◌, ◌-◌, ◌≤◌, Bool, true, false, IsTrue, List, [], ◌∷◌, length, refl, sym, ap, subst, arith}
use Rattle.std.specs.Prelude.{Option, None, Some, ◌&&◌, if◌then◌else◌}
use Rattle.std.specs.List.{list_all}
use Rattle.std.specs.Option.{option_map_or}
use Rattle.chdr_words.specs.declared.epid.Epid.{Epid}
use Rattle.net_machine.specs.declared.plan.RunPlan.{RunPlan}
use Rattle.net_machine.specs.Blocks.{drained_by, is_clear, is_closed, is_drained, is_finished}
use Rattle.net_machine.specs.Front.{Front, StreamFront, front_at}
use Rattle.net_machine.specs.Plans.{block_at, is_tx, producer_of, stream_to}
use Rattle.net_flows.specs.Closing.{ClosedStays, DrainedStays, FurtherIsFinished}

pub both : (a b : Bool) → IsTrue (a && b) → IsTrue a × IsTrue b
both true true h = (refl, refl)
both true false h = cc
both false b h = cc

pub joined : (a b : Bool) → IsTrue a → IsTrue b → IsTrue (a && b)
joined true true g h = refl
joined true false g h = cc
joined false b g h = cc

pub all-more : {X : Type 0} (p q : X → Bool) (xs : List X) → ((x : X) → IsTrue (p x) → IsTrue (q x)) → IsTrue (list_all p xs) → IsTrue (list_all q xs)
all-more p q [] more h = refl
all-more p q (x ∷ xs) more h =
    let parts = both (p x) (list_all p xs) h in
    joined (q x) (list_all q xs) (more x parts.0) (all-more p q xs more parts.1)

pub some-more : {X : Type 0} (p q : X → Bool) (o : Option X) → ((x : X) → IsTrue (p x) → IsTrue (q x)) → IsTrue (option_map_or p o false) → IsTrue (option_map_or q o false)
some-more p q None more h = cc
some-more p q (Some x) more h = more x h

if-more : (b x y z u : Bool) → (IsTrue b → IsTrue x → IsTrue z) → (IsTrue y → IsTrue u) → IsTrue (if b then x else y) → IsTrue (if b then z else u)
if-more true x y z u f g h = f refl h
if-more false x y z u f g h = g h

-- the producer of a stream is finished, as far as k blocks upstream tell
abbrev closed_at : ℕ → Front → ℕ → Bool
closed_at k f s = option_map_or (is_finished k f) (producer_of f.plan s) false

abbrev input_done : ℕ → Front → Epid → Bool
input_done k f e = option_map_or (λ s. drained_by (closed_at k f s) (front_at f s)) (stream_to f.plan e) false

drained-more : (a b : Bool) (t u : StreamFront) → (IsTrue a → IsTrue b) → (IsTrue (drained_by a t) → IsTrue (drained_by true u)) →
    IsTrue (drained_by a t) → IsTrue (drained_by b u)
drained-more a b t u f g h = joined b _ (f (both a _ h).0) (g h)

pub further_is_finished : FurtherIsFinished
further_is_finished zero f b h = cc
further_is_finished (suc k) f b h = if-more (is_tx (block_at f.plan b).kind) _ _ _ _ (λ t x. x)
    (all-more (input_done k f) (input_done (suc k) f) (block_at f.plan b).ins
    (λ e. some-more _ _ (stream_to f.plan e)
    (λ s. drained-more (closed_at k f s) (closed_at (suc k) f s) (front_at f s) (front_at f s)
    (some-more (is_finished k f) (is_finished (suc k) f) (producer_of f.plan s) (further_is_finished k f))
    (λ d. (both (closed_at k f s) _ d).1)))) h

level : (k d : ℕ) (f : Front) (b : ℕ) → IsTrue (is_finished k f b) → IsTrue (is_finished (k + d) f b)
level k zero f b h = let e : k ≡ k + 0 = omega arith in subst (λ (n : ℕ). IsTrue (is_finished n f b)) e h
level k (suc d) f b h =
    let e : suc (k + d) ≡ k + suc d = omega arith in
    subst (λ (n : ℕ). IsTrue (is_finished n f b)) e (further_is_finished (k + d) f b (level k d f b h))

to-closed : (k : ℕ) (f : Front) (s : ℕ) → k ≤ length f.plan.blocks → IsTrue (closed_at k f s) → IsTrue (is_closed f s)
to-closed k f s le h = some-more (is_finished k f) (is_finished (length f.plan.blocks) f) (producer_of f.plan s)
    (λ b d. let e : k + (length f.plan.blocks - k) ≡ length f.plan.blocks = omega arith in
    subst (λ (n : ℕ). IsTrue (is_finished n f b)) e (level k (length f.plan.blocks - k) f b d)) h

-- with another plan
abbrev under : RunPlan → Front → Front
under plan g = record g { plan = plan }

stays-under : (k : ℕ) (f g : Front) → k ≤ length f.plan.blocks →
    ((b : ℕ) → IsTrue (is_tx (block_at f.plan b).kind) → IsTrue (list_all (is_clear f) (block_at f.plan b).outs) → IsTrue (list_all (is_clear (under f.plan g)) (block_at f.plan b).outs)) →
    ((s : ℕ) → IsTrue (is_drained f s) → IsTrue (drained_by true (front_at g s))) → (b : ℕ) → IsTrue (is_finished k f b) → IsTrue (is_finished k (under f.plan g) b)
stays-under zero f g le clear drained b h = cc
stays-under (suc k) f g le clear drained b h = if-more (is_tx (block_at f.plan b).kind) _ _ _ _ (clear b)
    (all-more (input_done k f) (input_done k (under f.plan g)) (block_at f.plan b).ins
    (λ e. some-more _ _ (stream_to f.plan e)
    (λ s. drained-more (closed_at k f s) (closed_at k (under f.plan g) s) (front_at f s) (front_at g s)
    (some-more (is_finished k f) (is_finished k (under f.plan g)) (producer_of f.plan s) (stays-under k f g (omega arith) clear drained))
    (λ d. drained s (let parts = both (closed_at k f s) _ d in joined (is_closed f s) _ (to-closed k f s (omega arith) parts.0) parts.1))))) h

pub closed_stays : ClosedStays
closed_stays f g s keeps h =
    let back : under f.plan g ≡ g = ap (λ (p : RunPlan). under p g) (sym keeps.plan) in
    subst (λ (x : Front). IsTrue (is_closed x s)) back
    (some-more (is_finished (length f.plan.blocks) f) (is_finished (length f.plan.blocks) (under f.plan g)) (producer_of f.plan s)
    (stays-under (length f.plan.blocks) f g (omega arith)
    (λ b tx clear. subst (λ (x : Front). IsTrue (list_all (is_clear x) (block_at f.plan b).outs)) (sym back) (keeps.used_up b tx clear)) keeps.drained) h)

pub drained_stays : DrainedStays
drained_stays f g s keeps h =
    joined (is_closed g s) _ (closed_stays f g s keeps (both (is_closed f s) _ h).0) (keeps.drained s h)
