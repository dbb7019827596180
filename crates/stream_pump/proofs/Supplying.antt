-- Offering the next packets of a Tx changes nothing but how many are offered.
use Rattle.std.proofs.Common.{◌≡◌, ℕ, zero, suc, ◌+◌, ◌<◌, ◌≤◌, ◌⊎◌, inl, inr, true, List, [], ◌∷◌, length, refl, ap, subst, arith, ◌∙◌}
use Rattle.std.specs.Prelude.{None, slice_get}
use Rattle.std.proofs.lemmas.Bool.{cases_lt, false≢true}
use Rattle.std.proofs.lemmas.List.{get_or-set_same, get_or_past}
use Rattle.std.proofs.Math.ListN.{length-set}
use Rattle.rf_base.proofs.Places.{one-set}
use Rattle.chdr_packets.specs.declared.packet.Packet.{Packet}
use Rattle.net_machine.specs.Blocks.{has_packet}
use Rattle.net_machine.specs.declared.plan.RunPlan.{RunPlan}
use Rattle.net_present.specs.Kept.{idle_now, now_at}
use Rattle.net_present.specs.Onward.{on_now}
use Rattle.net_present.specs.Present.{Present, StreamNow}
use Rattle.fabric_parts.specs.Streams.{offers_now}
use Rattle.fabric_lists.specs.Opened.{is_tx_stream}
use Rattle.fabric_net.specs.Offering.{AreSupplied, IsSupplied}
use Rattle.stream_pump.specs.Supply.{CarriesOut, KeepsRun, OffersMore, OnlyOffers}

pub keeps-itself : (p : Present) → KeepsRun p p
keeps-itself p = record { plan = refl; streams = refl }

pub keeps-on : (p q r : Present) → KeepsRun p q → KeepsRun q r → KeepsRun p r
keeps-on p q r first then = record { plan = then.plan ∙ first.plan; streams = then.streams ∙ first.streams }

pub keeps-stream : (p : Present) (s : ℕ) (next : StreamNow → StreamNow) → KeepsRun p (on_now s next p)
keeps-stream p s next = record { plan = refl; streams = length-set p.streams s (next (now_at p.streams s)) }

pub still-carries : (p q : Present) (plan : RunPlan) → KeepsRun p q → CarriesOut p plan → CarriesOut q plan
still-carries p q plan keeps out = record { same = keeps.plan ∙ out.same; streams = keeps.streams ∙ out.streams; few = out.few }

pub offers-none : (p : Present) → OnlyOffers p p
offers-none p = record { run = keeps-itself p; each = λ s. record { ready = refl; waiting = refl; offered = omega arith } }

pub offers-on : (p q r : Present) → OnlyOffers p q → OnlyOffers q r → OnlyOffers p r
offers-on p q r first then = record {
  run = keeps-on p q r first.run then.run;
  each = λ s. let a = first.each s in let b = then.each s in
      let x = a.offered in let y = b.offered in
      record { ready = b.ready ∙ a.ready; waiting = b.waiting ∙ a.waiting; offered = omega (arith, x, y) };
}

-- one packet more of stream s
pub offers-more : (p q : Present) (s : ℕ) → OnlyOffers p q → OnlyOffers p (on_now s offers_now q)
offers-more p q s more = record {
  run = keeps-on p q (on_now s offers_now q) more.run (keeps-stream q s offers_now);
  each = one-set (λ t new old. OffersMore old new) q.streams p.streams idle_now idle_now (offers_now (now_at q.streams s)) s more.each
      (let here = more.each s in let x = here.offered in
      record { ready = here.ready; waiting = here.waiting; offered = omega (arith, x) });
}

pub offered-more : (q : Present) (s n : ℕ) → s < length q.streams → (now_at q.streams s).offered ≡ n
    → (now_at (on_now s offers_now q).streams s).offered ≡ n + 1
offered-more q s n there is =
    ap (λ (st : StreamNow). st.offered) (get_or-set_same q.streams s (offers_now (now_at q.streams s)) idle_now there) ∙ ap (λ k. k + 1) is

-- if all that is ready is offered, or anything is, the stream is supplied
none-left : (ready : List Packet) (n : ℕ) → slice_get ready n ≡ None → has_packet ready ≡ true → 0 < n
none-left [] n none some = absurd (false≢true some)
none-left (p ∷ ps) zero none some = cc
none-left (p ∷ ps) (suc n) none some = omega arith

pub supplied-all : (p : Present) (s n : ℕ) → (now_at p.streams s).offered ≡ n → slice_get (now_at p.streams s).ready n ≡ None → IsSupplied p s
supplied-all p s n is none tx some = let pos = none-left (now_at p.streams s).ready n none some in omega (arith, is, pos)

pub supplied-some : (p : Present) (s n : ℕ) → (now_at p.streams s).offered ≡ n → 0 < n → IsSupplied p s
supplied-some p s n is pos tx some = omega (arith, is, pos)

-- what is supplied stays so
pub still-supplied : (p q : Present) (s : ℕ) → OnlyOffers p q → IsSupplied p s → IsSupplied q s
still-supplied p q s more supplied tx some =
    let here = more.each s in
    let least = here.offered in
    let had = supplied (subst (λ (plan : RunPlan). is_tx_stream plan s ≡ true) more.run.plan tx) (subst (λ (ready : List Packet). has_packet ready ≡ true) here.ready some) in
    omega (arith, least, had)

-- a stream that no Tx fills needs nothing
pub supplied-not : (p : Present) (plan : RunPlan) (s : ℕ) → p.plan ≡ plan → (is_tx_stream plan s ≡ true → ⊥) → IsSupplied p s
supplied-not p plan s is not tx some = absurd (not (subst (λ (q : RunPlan). is_tx_stream q s ≡ true) is tx))

-- nor does one that isn't there
pub supplied-past : (p : Present) (s : ℕ) → length p.streams ≤ s → IsSupplied p s
supplied-past p s past tx some =
    absurd (false≢true (subst (λ (st : StreamNow). has_packet st.ready ≡ true) (get_or_past p.streams s idle_now past) some))

pub supplied-each : (p : Present) (n : ℕ) → length p.streams ≡ n → ((s : ℕ) → s < n → IsSupplied p s) → AreSupplied p
supplied-each p n many each s = by (cases_lt s n)
  where
    by : (s < n) ⊎ (n ≤ s) → IsSupplied p s
    by (inl lt) = each s lt
    by (inr past) = supplied-past p s (omega (arith, many, past))
