-- Acts of a stream that neither send nor lose never raise its potential.
use Rattle.std.proofs.Common.{◌≡◌, ℕ, ◌≤◌, ◌<◌, List, [], ◌∷◌, ◌++◌, length, ap, subst, arith, length-append}
use Rattle.stream_laws.specs.Acts.{Act, Allowed, IsLegal, Leads, after, after_all, Fill, Close, Enter, Order, Keep, Break, Discard, Obey, Renew, Take, Report, Hear, LosePacket, LoseCommand, LoseStatus}
use Rattle.stream_laws.specs.Laws.{IsRun}
use Rattle.stream_laws.specs.Machine.{Entry, Data, Command, State, Terms, opens}
use Rattle.stream_laws.specs.Potential.{potential}
use Rattle.stream_laws.proofs.Laws.{goes_on, lowers, stays_low}

module _ {A : Type 0} (terms : Terms) where
  pub act-run : (st : State A) (act : Act A) → IsRun terms st → Allowed terms st act → IsRun terms (after terms st act)
  act-run st act run may_it = record { valid = run.valid; run = goes_on terms (opens terms) st act run.run may_it }

  -- what was sent and lost stays so
  record Grown (old new : State A) : Type 0 where
    pub sent : length old.core.sent ≤ length new.core.sent
    pub losses : old.core.losses ≤ new.core.losses

  act-grown : (st : State A) (act : Act A) → Grown st (after terms st act)
  act-grown st (Fill loads) = record { sent = omega arith; losses = omega arith }
  act-grown st Close = record { sent = omega arith; losses = omega arith }
  act-grown st (Enter load rest) = let all = length-append st.core.sent (load ∷ []) in record { sent = omega (arith, all); losses = omega arith }
  act-grown st (Order op) = record { sent = omega arith; losses = omega arith }
  act-grown st (Keep place load rest) = record { sent = omega arith; losses = omega arith }
  act-grown st (Break place load rest) = record { sent = omega arith; losses = omega arith }
  act-grown st (Discard place load rest) = record { sent = omega arith; losses = omega arith }
  act-grown st (Obey op told rest) = record { sent = omega arith; losses = omega arith }
  act-grown st (Renew told rest) = record { sent = omega arith; losses = omega arith }
  act-grown st (Take n) = record { sent = omega arith; losses = omega arith }
  act-grown st Report = record { sent = omega arith; losses = omega arith }
  act-grown st (Hear status rest) = record { sent = omega arith; losses = omega arith }
  act-grown st (LosePacket before place load behind) = record { sent = omega arith; losses = omega arith }
  act-grown st (LoseCommand before op told behind) = record { sent = omega arith; losses = omega arith }
  act-grown st (LoseStatus before status behind) = record { sent = omega arith; losses = omega arith }

  acts-grown : (st : State A) (acts : List (Act A)) → Grown st (after_all terms st acts)
  acts-grown st [] = record { sent = omega arith; losses = omega arith }
  acts-grown st (act ∷ acts) =
      let one = act-grown st act in let all = acts-grown (after terms st act) acts in
      record { sent = omega (arith, one.sent, all.sent); losses = omega (arith, one.losses, all.losses) }

  act-low : (st : State A) (act : Act A) → IsRun terms st → Allowed terms st act → length (after terms st act).core.sent ≤ length st.core.sent → (after terms st act).core.losses ≤ st.core.losses →
      potential (after terms st act) ≤ potential st
  act-low st (Fill loads) run may_it sent losses = (stays_low terms st run (Fill loads) tt may_it).1
  act-low st Close run may_it sent losses = (stays_low terms st run Close tt may_it).1
  act-low st (Enter load rest) run may_it sent losses = absurd (let all = length-append st.core.sent (load ∷ []) in omega (arith, all, sent))
  act-low st (Order op) run may_it sent losses = less (potential (after terms st (Order op))) (potential st) (lowers terms st run op may_it).1
    where
      less : (a b : ℕ) → a < b → a ≤ b
      less a b lt = omega arith
  act-low st (Keep place load rest) run may_it sent losses = (stays_low terms st run (Keep place load rest) tt may_it).1
  act-low st (Break place load rest) run may_it sent losses = (stays_low terms st run (Break place load rest) tt may_it).1
  act-low st (Discard place load rest) run may_it sent losses = (stays_low terms st run (Discard place load rest) tt may_it).1
  act-low st (Obey op told rest) run may_it sent losses = (stays_low terms st run (Obey op told rest) tt may_it).1
  act-low st (Renew told rest) run may_it sent losses = (stays_low terms st run (Renew told rest) tt may_it).1
  act-low st (Take n) run may_it sent losses = (stays_low terms st run (Take n) tt may_it).1
  act-low st Report run may_it sent losses = (stays_low terms st run Report tt may_it).1
  act-low st (Hear status rest) run may_it sent losses = (stays_low terms st run (Hear status rest) tt may_it).1
  act-low st (LosePacket before place load behind) run may_it sent losses = absurd (omega (arith, losses))
  act-low st (LoseCommand before op told behind) run may_it sent losses = absurd (omega (arith, losses))
  act-low st (LoseStatus before status behind) run may_it sent losses = absurd (omega (arith, losses))

  acts-low : (st : State A) (acts : List (Act A)) → IsRun terms st → IsLegal terms st acts → length (after_all terms st acts).core.sent ≤ length st.core.sent → (after_all terms st acts).core.losses ≤ st.core.losses →
      potential (after_all terms st acts) ≤ potential st
  acts-low st [] run legal sent losses = same (potential st)
    where
      same : (n : ℕ) → n ≤ n
      same n = omega arith
  acts-low st (act ∷ acts) run legal sent losses =
      let one = act-grown st act in let all = acts-grown (after terms st act) acts in
      let first = act-low st act run legal.0 (omega (arith, all.sent, sent)) (omega (arith, all.losses, losses)) in
      let rest = acts-low (after terms st act) acts (act-run st act run legal.0) legal.1 (omega (arith, one.sent, sent)) (omega (arith, one.losses, losses)) in
      chain (potential (after_all terms (after terms st act) acts)) (potential (after terms st act)) (potential st) rest first
    where
      chain : (a b c : ℕ) → a ≤ b → b ≤ c → a ≤ c
      chain a b c le le2 = omega arith

  -- where acts lead and neither send nor lose, the potential is no greater
  pub leads-low : (st to : State A) → IsRun terms st → Leads terms st to → length to.core.sent ≤ length st.core.sent → to.core.losses ≤ st.core.losses → potential to ≤ potential st
  leads-low st to run leads sent losses =
      subst (λ (t : State A). length t.core.sent ≤ length st.core.sent → t.core.losses ≤ st.core.losses → potential t ≤ potential st) leads.there
      (acts-low st leads.acts run leads.legal) sent losses

  -- an act that leaves more under way to the consumer, and sends nothing, is a command
  pub command-lowers : (st : State A) (act : Act A) → IsRun terms st → Allowed terms st act → length (after terms st act).core.sent ≤ length st.core.sent → length st.forward < length (after terms st act).forward →
      potential (after terms st act) < potential st
  command-lowers st (Fill loads) run may_it sent more = absurd (omega (arith, more))
  command-lowers st Close run may_it sent more = absurd (omega (arith, more))
  command-lowers st (Enter load rest) run may_it sent more = absurd (let all = length-append st.core.sent (load ∷ []) in omega (arith, all, sent))
  command-lowers st (Order op) run may_it sent more = (lowers terms st run op may_it).1
  command-lowers st (Keep place load rest) run may_it sent more = absurd (let was = ap (λ (es : List (Entry A)). length es) may_it.0 in omega (arith, was, more))
  command-lowers st (Break place load rest) run may_it sent more = absurd (let was = ap (λ (es : List (Entry A)). length es) may_it.0 in omega (arith, was, more))
  command-lowers st (Discard place load rest) run may_it sent more = absurd (let was = ap (λ (es : List (Entry A)). length es) may_it.0 in omega (arith, was, more))
  command-lowers st (Obey op told rest) run may_it sent more = absurd (let was = ap (λ (es : List (Entry A)). length es) may_it.0 in omega (arith, was, more))
  command-lowers st (Renew told rest) run may_it sent more = absurd (let was = ap (λ (es : List (Entry A)). length es) may_it in omega (arith, was, more))
  command-lowers st (Take n) run may_it sent more = absurd (omega (arith, more))
  command-lowers st Report run may_it sent more = absurd (omega (arith, more))
  command-lowers st (Hear status rest) run may_it sent more = absurd (omega (arith, more))
  command-lowers st (LosePacket before place load behind) run may_it sent more = absurd (shorter before (Data place load) behind st.forward may_it more)
    where
      shorter : (before : List (Entry A)) (e : Entry A) (behind es : List (Entry A)) → es ≡ before ++ e ∷ behind → length es < length (before ++ behind) → ⊥
      shorter before e behind es is more =
          let was = ap (λ (l : List (Entry A)). length l) is in let all = length-append before (e ∷ behind) in let less = length-append before behind in omega (arith, was, all, less, more)
  command-lowers st (LoseCommand before op told behind) run may_it sent more = absurd (shorter before (Command op told) behind st.forward may_it more)
    where
      shorter : (before : List (Entry A)) (e : Entry A) (behind es : List (Entry A)) → es ≡ before ++ e ∷ behind → length es < length (before ++ behind) → ⊥
      shorter before e behind es is more =
          let was = ap (λ (l : List (Entry A)). length l) is in let all = length-append before (e ∷ behind) in let less = length-append before behind in omega (arith, was, all, less, more)
  command-lowers st (LoseStatus before status behind) run may_it sent more = absurd (omega (arith, more))
