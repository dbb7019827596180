-- The invariant holds at the opening and is kept by every legal list of acts.
use Rattle.std.proofs.Common.{List, [], ◌∷◌, refl, arith}
use Rattle.stream_endpoint.specs.Flow.{IsValid}
use Rattle.stream_laws.specs.Machine.{State, Terms, opens}
use Rattle.stream_laws.specs.Acts.{Act, Allowed, IsLegal, after, after_all, Fill, Close, Enter, Order, Keep, Break, Discard, Obey, Renew, Take, Report, Hear, LosePacket, LoseCommand, LoseStatus}
use Rattle.stream_laws.specs.Talk.{Holds}
use Rattle.stream_laws.proofs.StepsAhead.{holds_break, holds_discard, holds_keep, holds_lose, holds_lose_command}
use Rattle.stream_laws.proofs.StepsBack.{holds_lose_status, holds_report, holds_take}
use Rattle.stream_laws.proofs.StepsHear.{holds_hear}
use Rattle.stream_laws.proofs.StepsSender.{holds_close, holds_enter, holds_fill, holds_obey, holds_order, holds_renew}

pub holds_opens : {A : Type 0} (terms : Terms) → Holds {A = A} terms (opens terms)
holds_opens terms = record {
  small = tt;
  counted = omega arith;
  balanced = omega arith;
  credited = omega arith;
  started = omega arith;
  rising = omega arith;
  ordered = record { stand = (omega arith, λ k a b. absurd (omega arith)); same = tt; past = λ k l. absurd l };
  received = omega arith;
  epochs = record {
    more_sent = omega arith;
    more_given = omega arith;
    fits = omega arith;
    same = λ k below. absurd (omega arith);
    before_loss = λ k l. absurd l;
  };
  paid = record { ended = omega arith; broken_off = λ m. absurd (omega arith); unanswered = λ s. absurd (cc s) };
  unhurt = record { none_missing = λ m. absurd (omega arith); none_cut = λ m. absurd (omega arith); not_resyncing = λ s. absurd (cc s); not_halted = λ s. absurd (cc s) };
  talk = record {
    none_sent = refl;
    none_given = refl;
    no_data = refl;
    none_missing = refl;
    good = refl;
    all_good = omega arith;
    order = tt;
    one = omega arith;
    silent = λ c. refl;
  };
}

pub holds_after : {A : Type 0} (terms : Terms) (st : State A) (act : Act A) → IsValid terms.flow → Holds terms st → Allowed terms st act → Holds terms (after terms st act)
holds_after terms st (Fill loads) valid h allowed = holds_fill terms st loads h allowed
holds_after terms st Close valid h allowed = holds_close terms st h
holds_after terms st (Enter load rest) valid h allowed = holds_enter terms st load rest h allowed
holds_after terms st (Order op) valid h allowed = holds_order terms st op h allowed
holds_after terms st (Keep place load rest) valid h allowed = holds_keep terms st place load rest valid h allowed
holds_after terms st (Break place load rest) valid h allowed = holds_break terms st place load rest valid h allowed
holds_after terms st (Discard place load rest) valid h allowed = holds_discard terms st place load rest valid h allowed
holds_after terms st (Obey op told rest) valid h allowed = holds_obey terms st op told rest h allowed
holds_after terms st (Renew told rest) valid h allowed = holds_renew terms st told rest h allowed
holds_after terms st (Take n) valid h allowed = holds_take terms st n h allowed
holds_after terms st Report valid h allowed = holds_report terms st h allowed
holds_after terms st (Hear status rest) valid h allowed = holds_hear terms st status rest valid h allowed
holds_after terms st (LosePacket before place load behind) valid h allowed = holds_lose terms st before place load behind h allowed
holds_after terms st (LoseCommand before op told behind) valid h allowed = holds_lose_command terms st before op told behind h allowed
holds_after terms st (LoseStatus before status behind) valid h allowed = holds_lose_status terms st before status behind h allowed

pub holds_all : {A : Type 0} (terms : Terms) (st : State A) (acts : List (Act A)) → IsValid terms.flow → Holds terms st → IsLegal terms st acts → Holds terms (after_all terms st acts)
holds_all terms st [] valid h legal = h
holds_all terms st (act ∷ acts) valid h legal = holds_all terms (after terms st act) acts valid (holds_after terms st act valid h legal.0) legal.1
