-- How each act keeps the parts of the invariant that speak of places: order, reception, epochs.
use Rattle.std.proofs.Common.{◌≡◌, ℕ, ◌+◌, ◌<◌, ◌≤◌, ◌%◌, ◌^◌, ◌⊎◌, inl, inr, Option, Some, None, List, [], ◌∷◌, ◌++◌, length, slice_get, refl, sym, ◌∙◌, subst, arith, length-append}
use Rattle.std.proofs.lemmas.Bool.{cases_eq}
use Rattle.std.proofs.lemmas.Option.{slice_get_within}
use Rattle.chdr_words.specs.declared.command.CmdOp.{CmdOp}
use Rattle.stream_endpoint.specs.declared.count.Count.{Count}
use Rattle.stream_endpoint.specs.declared.state.Gap.{Gap}
use Rattle.stream_laws.specs.Machine.{Cut, Entry, Data, Command, Load}
use Rattle.stream_laws.specs.Chains.{AllLost, IsLost}
use Rattle.stream_laws.specs.Epochs.{EachEpoch, IsEpoch, begun, reach}
use Rattle.stream_laws.specs.Invariant.{HasShape, Ordered, Received}
use Rattle.stream_laws.proofs.Chains.{are_sent_enter, are_sent_order, are_sent_without, slice_get-append, slice_get-seam, stand_enter, stand_lose, stand_order, stand_place, stand_without}

length_one : {X : Type 0} (xs : List X) (x : X) → length (xs ++ x ∷ []) ≡ length xs + 1
length_one xs x = length-append xs (x ∷ [])

pub ordered_enter : {A : Type 0} (sent : List (Load A)) (lost : List ℕ) (next : ℕ) (es : List (Entry A)) (load : Load A)
    → Ordered sent lost next es → Ordered (sent ++ load ∷ []) lost next (es ++ Data (length sent) load ∷ [])
ordered_enter sent lost next es load h =
    let fresh : IsLost lost (length sent) → ⊥ = λ l. (let p = h.past (length sent) l in omega arith) in
    let stood = stand_enter lost next es load (length sent) h.stand fresh in
    record {
      stand = rw (length_one sent load) stood;
      same = are_sent_enter sent es load h.same;
      past = λ k l. (let p = h.past k l in omega (arith, length_one sent load));
    }

pub ordered_order : {A : Type 0} (sent : List (Load A)) (lost : List ℕ) (next : ℕ) (es : List (Entry A)) (op : CmdOp) (told : Count)
    → Ordered sent lost next es → Ordered sent lost next (es ++ Command op told ∷ [])
ordered_order sent lost next es op told h = record {
  stand = stand_order lost next es op told (length sent) h.stand;
  same = are_sent_order sent es op told h.same;
  past = h.past;
}

pub ordered_arrive : {A : Type 0} (sent : List (Load A)) (lost : List ℕ) (next place : ℕ) (load : Load A) (rest : List (Entry A))
    → Ordered sent lost next (Data place load ∷ rest) → Ordered sent lost (place + 1) rest
ordered_arrive sent lost next place load rest h = record { stand = h.stand.3; same = h.same.1; past = h.past }

pub ordered_obey : {A : Type 0} (sent : List (Load A)) (lost : List ℕ) (next : ℕ) (op : CmdOp) (told : Count) (rest : List (Entry A))
    → Ordered sent lost next (Command op told ∷ rest) → Ordered sent lost next rest
ordered_obey sent lost next op told rest h = record { stand = h.stand; same = h.same; past = h.past }

pub ordered_renew : {A : Type 0} (sent : List (Load A)) (lost : List ℕ) (next : ℕ) (es rest : List (Entry A))
    → rest ≡ [] → Ordered sent lost next es → Ordered sent lost (length sent) rest
ordered_renew sent lost next es rest none h = rw none (record {
  stand = (omega arith, λ k a b. absurd (omega arith));
  same = tt;
  past = h.past;
})

pub ordered_lose : {A : Type 0} (sent : List (Load A)) (lost : List ℕ) (next : ℕ) (before : List (Entry A)) (place : ℕ) (load : Load A) (behind : List (Entry A))
    → Ordered sent lost next (before ++ Data place load ∷ behind) → Ordered sent (place ∷ lost) next (before ++ behind)
ordered_lose sent lost next before place load behind h =
    let within = stand_place lost next before place load behind (length sent) h.stand in
    record {
      stand = stand_lose lost next before place load behind (length sent) h.stand;
      same = are_sent_without sent before (Data place load) behind h.same;
      past = λ k. elim [ inl e ↦ omega arith | inr l ↦ h.past k l ];
    }

pub ordered_lose_command : {A : Type 0} (sent : List (Load A)) (lost : List ℕ) (next : ℕ) (before : List (Entry A)) (op : CmdOp) (told : Count) (behind : List (Entry A))
    → Ordered sent lost next (before ++ Command op told ∷ behind) → Ordered sent lost next (before ++ behind)
ordered_lose_command sent lost next before op told behind h = record {
  stand = stand_without lost next before op told behind (length sent) h.stand;
  same = are_sent_without sent before (Command op told) behind h.same;
  past = h.past;
}

-- two numbers that are near each other are equal if their remainders are
pub near : (place reached : ℕ) → reached ≤ place → place < reached + 65536 → place % 2 ^ 16 ≡ reached % 2 ^ 16 → place ≡ reached
near place reached le few e = omega arith

pub received_keep : {A : Type 0} (start reached next place : ℕ) (given : List (Load A)) (lost : List ℕ) (from : Cut) (load : Load A)
    → start + place ≡ reached → Received start reached next given lost from None
    → Received start (reached + 1) (place + 1) (given ++ load ∷ []) lost from None
received_keep start reached next place given lost from load e h = omega (arith, length_one given load)

pub received_break : {A : Type 0} (start reached next place : ℕ) (given : List (Load A)) (lost : List ℕ) (from : Cut)
    → reached < start + place → next ≤ place → AllLost lost next place → (IsLost lost place → ⊥) → Received start reached next given lost from None
    → Received start reached (place + 1) given lost from (Some (record { expected = reached % 2 ^ 16; got = (start + place) % 2 ^ 16 }))
received_break start reached next place given lost from later le all fresh h = record {
  reached_is = h.reached_is;
  from_here = h.from_here;
  passed = omega arith;
  shape = record {
    place = place;
    later = later;
    arrived = omega arith;
    between = λ k a b. all k (omega arith) b;
    not_lost = fresh;
    expected = refl;
    got = refl;
  };
}

pub received_discard : {A : Type 0} (start reached next place : ℕ) (given : List (Load A)) (lost : List ℕ) (from : Cut) (gap : Gap)
    → next ≤ place → Received start reached next given lost from (Some gap) → Received start reached (place + 1) given lost from (Some gap)
received_discard start reached next place given lost from gap le h = record {
  reached_is = h.reached_is;
  from_here = h.from_here;
  passed = (let p = h.passed in omega arith);
  shape = record {
    place = h.shape.place;
    later = h.shape.later;
    arrived = (let p = h.shape.arrived in omega arith);
    between = h.shape.between;
    not_lost = h.shape.not_lost;
    expected = h.shape.expected;
    got = h.shape.got;
  };
}

pub received_renew : {A : Type 0} (start total : ℕ) (sent given : List (Load A)) (lost : List ℕ)
    → total ≡ start + length sent → Received start total (length sent) given lost (reach sent given) None
received_renew start total sent given lost e = omega arith

shape_lose : (start reached next place : ℕ) (lost : List ℕ) (broken : Option Gap) → next ≤ place
    → HasShape start reached next lost broken → HasShape start reached next (place ∷ lost) broken
shape_lose start reached next place lost None le h = h
shape_lose start reached next place lost (Some gap) le h = record {
  place = h.place;
  later = h.later;
  arrived = h.arrived;
  between = λ k a b. inr (h.between k a b);
  not_lost = elim [ inl e ↦ (let p = h.arrived in omega arith) | inr l ↦ h.not_lost l ];
  expected = h.expected;
  got = h.got;
}

pub received_lose : {A : Type 0} (start reached next place : ℕ) (given : List (Load A)) (lost : List ℕ) (from : Cut) (broken : Option Gap)
    → next ≤ place → Received start reached next given lost from broken → Received start reached next given (place ∷ lost) from broken
received_lose start reached next place given lost from broken le h = record {
  reached_is = h.reached_is;
  from_here = h.from_here;
  passed = h.passed;
  shape = shape_lose start reached next place lost broken le h.shape;
}

-- the last epoch goes on, and the earlier ones stay
pub epochs_on : (Holds : Cut → Cut → Type 0) (cuts : List Cut) (here there : Cut)
    → (Holds (begun cuts) here → Holds (begun cuts) there) → EachEpoch Holds cuts here → EachEpoch Holds cuts there
epochs_on Holds [] here there on h = on h
epochs_on Holds (cut ∷ cuts) here there on h = (on h.0, h.1)

pub epochs_last : (Holds : Cut → Cut → Type 0) (cuts : List Cut) (here : Cut) → EachEpoch Holds cuts here → Holds (begun cuts) here
epochs_last Holds [] here h = h
epochs_last Holds (cut ∷ cuts) here h = h.0

epoch_sent : {A : Type 0} (sent given : List (Load A)) (lost : List ℕ) (load : Load A) (from here : Cut)
    → here.sent ≤ length sent → IsEpoch sent given lost from here → IsEpoch (sent ++ load ∷ []) given lost from here
epoch_sent sent given lost load from here le h = record {
  more_sent = h.more_sent;
  more_given = h.more_given;
  fits = h.fits;
  same = λ k below. h.same k below ∙ sym (slice_get-append sent (load ∷ []) (from.sent + k) (let p = h.fits in omega arith));
  before_loss = h.before_loss;
}

-- epochs as they stand don't change by what is sent later
epochs_sent : {A : Type 0} (sent given : List (Load A)) (lost : List ℕ) (load : Load A) (cuts : List Cut) (here : Cut)
    → here.sent ≤ length sent → EachEpoch (IsEpoch sent given lost) cuts here → EachEpoch (IsEpoch (sent ++ load ∷ []) given lost) cuts here
epochs_sent {A} sent given lost load [] here le h = epoch_sent sent given lost load _ here le h
epochs_sent {A} sent given lost load (cut ∷ cuts) here le h = (
  epoch_sent sent given lost load cut here le h.0,
  epochs_sent sent given lost load cuts cut (let p = h.0.more_sent in omega arith) h.1,
)

pub epochs_enter : {A : Type 0} (sent given : List (Load A)) (lost : List ℕ) (load : Load A) (cuts : List Cut)
    → ((k : ℕ) → IsLost lost k → k < length sent) → EachEpoch (IsEpoch sent given lost) cuts (reach sent given)
    → EachEpoch (IsEpoch (sent ++ load ∷ []) given lost) cuts (reach (sent ++ load ∷ []) given)
epochs_enter {A} sent given lost load cuts past h =
    let long = length_one sent load in
    epochs_on (IsEpoch (sent ++ load ∷ []) given lost) cuts (reach sent given) (reach (sent ++ load ∷ []) given) (λ e. record {
      more_sent = (let p = e.more_sent in omega arith);
      more_given = e.more_given;
      fits = (let p = e.fits in omega arith);
      same = e.same;
      before_loss = λ k l from below. e.before_loss k l from (past k l);
    }) (epochs_sent sent given lost load cuts (reach sent given) (omega arith) h)

epoch_given : {A : Type 0} (sent given : List (Load A)) (lost : List ℕ) (load : Load A) (from here : Cut)
    → here.given ≤ length given → IsEpoch sent given lost from here → IsEpoch sent (given ++ load ∷ []) lost from here
epoch_given sent given lost load from here le h = record {
  more_sent = h.more_sent;
  more_given = h.more_given;
  fits = h.fits;
  same = λ k below. slice_get-append given (load ∷ []) (from.given + k) (omega arith) ∙ h.same k below;
  before_loss = h.before_loss;
}

epochs_given : {A : Type 0} (sent given : List (Load A)) (lost : List ℕ) (load : Load A) (cuts : List Cut) (here : Cut)
    → here.given ≤ length given → EachEpoch (IsEpoch sent given lost) cuts here → EachEpoch (IsEpoch sent (given ++ load ∷ []) lost) cuts here
epochs_given {A} sent given lost load [] here le h = epoch_given sent given lost load _ here le h
epochs_given {A} sent given lost load (cut ∷ cuts) here le h = (
  epoch_given sent given lost load cut here le h.0,
  epochs_given sent given lost load cuts cut (let p = h.0.more_given in omega arith) h.1,
)

-- one more is given: the packet at the place where the epoch's given ends
epoch_keep : {A : Type 0} (sent given : List (Load A)) (lost : List ℕ) (load : Load A) (place : ℕ) (from : Cut)
    → place + from.given ≡ from.sent + length given → slice_get sent place ≡ Some load → (IsLost lost place → ⊥)
    → IsEpoch sent (given ++ load ∷ []) lost from (reach sent given) → IsEpoch sent (given ++ load ∷ []) lost from (reach sent (given ++ load ∷ []))
epoch_keep {A} sent given lost load place from at is fresh e =
    let long = length_one given load in
    let inside = slice_get_within sent place load is in
    record {
      more_sent = e.more_sent;
      more_given = (let p = e.more_given in omega arith);
      fits = omega arith;
      same = λ k below. (elim (cases_eq (from.given + k) (length given)) [
        | inl last ↦ (
            let there : from.sent + k ≡ place = omega arith in
            rw (there, last) (slice_get-seam given load [] ∙ sym is)
            )
        | inr other ↦ e.same k (omega arith)
      ]);
      before_loss = λ k l a b. (
          let p = e.before_loss k l a b in
          let other : k ≡ place → ⊥ = λ same. fresh (subst (IsLost lost) same l) in
          omega arith
          );
    }

pub epochs_keep : {A : Type 0} (sent given : List (Load A)) (lost : List ℕ) (load : Load A) (place : ℕ) (cuts : List Cut)
    → place + (begun cuts).given ≡ (begun cuts).sent + length given → slice_get sent place ≡ Some load → (IsLost lost place → ⊥)
    → EachEpoch (IsEpoch sent given lost) cuts (reach sent given)
    → EachEpoch (IsEpoch sent (given ++ load ∷ []) lost) cuts (reach sent (given ++ load ∷ []))
epochs_keep {A} sent given lost load place cuts at is fresh h =
    epochs_on (IsEpoch sent (given ++ load ∷ []) lost) cuts (reach sent given) (reach sent (given ++ load ∷ []))
    (epoch_keep sent given lost load place (begun cuts) at is fresh)
    (epochs_given sent given lost load cuts (reach sent given) (omega arith) h)

pub epochs_renew : {A : Type 0} (sent given : List (Load A)) (lost : List ℕ) (cuts : List Cut)
    → EachEpoch (IsEpoch sent given lost) cuts (reach sent given) → EachEpoch (IsEpoch sent given lost) (reach sent given ∷ cuts) (reach sent given)
epochs_renew {A} sent given lost cuts h = (
  record {
    more_sent = omega arith;
    more_given = omega arith;
    fits = omega arith;
    same = λ k below. absurd (omega arith);
    before_loss = λ k l a b. absurd (omega arith);
  },
  h,
)

epoch_lost : {A : Type 0} (sent given : List (Load A)) (lost : List ℕ) (place : ℕ) (from here : Cut)
    → (from.sent + here.given ≤ place + from.given) ⊎ (here.sent ≤ place) → IsEpoch sent given lost from here → IsEpoch sent given (place ∷ lost) from here
epoch_lost sent given lost place from here far h = record {
  more_sent = h.more_sent;
  more_given = h.more_given;
  fits = h.fits;
  same = h.same;
  before_loss = λ k. elim [ inl e ↦ (λ a b. omega arith) | inr l ↦ h.before_loss k l ];
}

epochs_lost : {A : Type 0} (sent given : List (Load A)) (lost : List ℕ) (place : ℕ) (cuts : List Cut) (here : Cut)
    → here.sent ≤ place → EachEpoch (IsEpoch sent given lost) cuts here → EachEpoch (IsEpoch sent given (place ∷ lost)) cuts here
epochs_lost {A} sent given lost place [] here le h = epoch_lost sent given lost place _ here (inr le) h
epochs_lost {A} sent given lost place (cut ∷ cuts) here le h = (
  epoch_lost sent given lost place cut here (inr le) h.0,
  epochs_lost sent given lost place cuts cut (let p = h.0.more_sent in omega arith) h.1,
)

pub epochs_lose : {A : Type 0} (sent given : List (Load A)) (lost : List ℕ) (place : ℕ) (cuts : List Cut) (here : Cut)
    → (begun cuts).sent + here.given ≤ place + (begun cuts).given → (begun cuts).sent ≤ place
    → EachEpoch (IsEpoch sent given lost) cuts here → EachEpoch (IsEpoch sent given (place ∷ lost)) cuts here
epochs_lose {A} sent given lost place [] here far le h = epoch_lost sent given lost place _ here (inl far) h
epochs_lose {A} sent given lost place (cut ∷ cuts) here far le h = (
  epoch_lost sent given lost place cut here (inl far) h.0,
  epochs_lost sent given lost place cuts cut le h.1,
)
