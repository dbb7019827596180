-- One stream of a present changes.
use Rattle.std.proofs.Common.{◌≡◌, ℕ, ◌<◌, List, length, set, refl, ap, ◌∙◌}
use Rattle.std.proofs.lemmas.List.{get_or-set_same, get_or-set_other, set-get_or, set-set}
use Rattle.std.proofs.Math.ListN.{length-set}
use Rattle.rf_base.proofs.Places.{one-set}
use Rattle.net_present.specs.Kept.{idle_now}
use Rattle.net_present.specs.Onward.{on_now}
use Rattle.net_present.specs.Present.{Present, StreamNow}
use Rattle.stream_rounds.specs.Presents.{at}

pub at-same : (p : Present) (s : ℕ) (next : StreamNow → StreamNow) → s < length p.streams → at (on_now s next p) s ≡ next (at p s)
at-same p s next there = get_or-set_same p.streams s (next (at p s)) idle_now there

pub at-other : (p : Present) (s t : ℕ) (next : StreamNow → StreamNow) → (t ≡ s → ⊥) → at (on_now s next p) t ≡ at p t
at-other p s t next other = get_or-set_other p.streams s t (next (at p s)) idle_now other

-- what the change leaves of the stream stays of every stream
pub at-keeps : {A : Type 0} (pick : StreamNow → A) (p : Present) (s : ℕ) (next : StreamNow → StreamNow)
    → ((st : StreamNow) → pick (next st) ≡ pick st) → (t : ℕ) → pick (at (on_now s next p) t) ≡ pick (at p t)
at-keeps pick p s next keeps =
    one-set (λ t new old. pick new ≡ pick old) p.streams p.streams idle_now idle_now (next (at p s)) s (λ t. refl) (keeps (at p s))

pub as-many : (p : Present) (s : ℕ) (next : StreamNow → StreamNow) → length (on_now s next p).streams ≡ length p.streams
as-many p s next = length-set p.streams s (next (at p s))

-- two changes of a stream are one
pub on-twice : (p : Present) (s : ℕ) (first then both : StreamNow → StreamNow) → s < length p.streams
    → then (first (at p s)) ≡ both (at p s) → on_now s then (on_now s first p) ≡ on_now s both p
on-twice p s first then both there is =
    ap (λ (streams : List StreamNow). record p { streams = streams })
    (set-set p.streams s (first (at p s)) (then (at (on_now s first p) s))
    ∙ ap (λ (st : StreamNow). set p.streams s st) (ap then (at-same p s first there) ∙ is))

-- a change that leaves the stream as it is changes nothing
pub on-nothing : (p : Present) (s : ℕ) (next : StreamNow → StreamNow) → next (at p s) ≡ at p s → on_now s next p ≡ p
on-nothing p s next is =
    ap (λ (streams : List StreamNow). record p { streams = streams })
    (ap (λ (st : StreamNow). set p.streams s st) is ∙ set-get_or p.streams s idle_now)
