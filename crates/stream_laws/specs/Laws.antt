-- The laws of a stream: what holds in each state that a legal run leaves.
use Rattle.std.specs.Prelude.{◌≡◌, ℕ, ◌+◌, ◌-◌, ◌*◌, ◌<◌, ◌≤◌, Some, List, ◌∷◌, length, take, drop}
use mathlib.Core.List.{IsPrefix}
use Rattle.chdr_words.specs.declared.command.CmdOp.TheVariants.{Resync}
use Rattle.chdr_words.specs.declared.epid.Epid.{Epid}
use Rattle.chdr_words.specs.declared.status.Status.{Status}
use Rattle.chdr_words.specs.declared.status.StatusCode.TheVariants.{SeqErr}
use Rattle.stream_endpoint.specs.declared.count.Count.{Count}
use Rattle.stream_endpoint.specs.declared.state.Gap.{Gap}
use Rattle.stream_endpoint.specs.Counts.{minus, spelled, spelled_minus}
use Rattle.stream_endpoint.specs.Flow.{IsValid}
use Rattle.stream_endpoint.specs.InEnd.{status_of}
use Rattle.stream_endpoint.specs.OutEnd.{told_by as told_in}
use Rattle.stream_endpoint.specs.Receiver.{FindsRoom, expected, transferred}
use Rattle.stream_endpoint.specs.Sender.{known, next_number}
use Rattle.stream_laws.specs.Machine.{Entry, Data, Command, Load, State, Terms, Told, count_of, number_at, opens}
use Rattle.stream_laws.specs.Acts.{Act, Allowed, Leads, after}
use Rattle.stream_laws.specs.Chains.{IsLost}
use Rattle.stream_laws.specs.Epochs.{EachEpoch, begun, reach}

-- a legal run of a stream with a valid flow leads to this state
pub record IsRun {A : Type 0} (terms : Terms) (st : State A) : Type 0 where
  pub valid : IsValid terms.flow
  pub run : Leads terms (opens terms) st

-- something holds wherever a legal run leads
abbrev pub Always : {A : Type 0} → (Terms → State A → Type 0) → Type 0
Always {A} Here = (terms : Terms) (st : State A) → IsRun terms st → Here terms st

-- the part of a list from one place up to another
abbrev pub piece : {X : Type 0} → ℕ → ℕ → List X → List X
piece from upto xs = take (upto - from) (drop from xs)

-- In each epoch what was given begins what was sent.
abbrev pub IsEpochwise : {A : Type 0} → Terms → State A → Type 0
IsEpochwise terms st = EachEpoch
    (λ from here. IsPrefix (piece from.given here.given st.core.given) (piece from.sent here.sent st.core.sent))
    st.core.cuts (reach st.core.sent st.core.given)

-- The cuts stand in order, so that the pieces between them make up all that was sent and given.
abbrev pub IsCut : {A : Type 0} → Terms → State A → Type 0
IsCut terms st = EachEpoch (λ from here. (from.sent ≤ here.sent) × (from.given ≤ here.given)) st.core.cuts
    (reach st.core.sent st.core.given)

-- What was taken, the first `taken` packets of what was given, is all there.
abbrev pub IsTakenOfGiven : {A : Type 0} → Terms → State A → Type 0
IsTakenOfGiven terms st = (length (take st.core.taken st.core.given) ≡ st.core.taken)
    × IsPrefix (take st.core.taken st.core.given) st.core.given

-- What was sent and isn't known to be taken is within the capacity.
pub record IsWithin {A : Type 0} (terms : Terms) (st : State A) : Type 0 where
  pub sent_packets : st.core.sender.sent.packets ≡ terms.start.packets + length st.core.sent
  pub sent_bytes : st.core.sender.sent.bytes ≡ terms.start.bytes + (count_of st.core.sent).bytes
  pub packets : st.core.sender.sent.packets ≤ (known st.core.sender).packets + terms.flow.cap_packets
  pub bytes : st.core.sender.sent.bytes ≤ (known st.core.sender).bytes + terms.flow.cap_bytes

-- A packet that arrives and is kept finds room.
abbrev pub HasRoomAhead : {A : Type 0} → Terms → State A → Type 0
HasRoomAhead {A} terms st = (place : ℕ) (load : Load A) (rest : List (Entry A))
    → st.forward ≡ Data place load ∷ rest
    → FindsRoom terms.flow st.core.receiver (number_at terms place) load.wire

-- the first place of the present epoch whose packet was lost
pub record IsGap {A : Type 0} (st : State A) (place : ℕ) : Type 0 where
  pub here : (begun st.core.cuts).sent ≤ place
  pub sent : place < length st.core.sent
  pub lost : IsLost st.core.lost place
  pub first : (k : ℕ) → IsLost st.core.lost k → (begun st.core.cuts).sent ≤ k → place ≤ k

-- A gap's two numbers: that of the first packet of the epoch that was lost, and that of the first later
-- one that wasn't.
pub record IsTold {A : Type 0} (terms : Terms) (st : State A) (gap : Gap) : Type 0 where
  pub place : ℕ
  pub later : ℕ
  pub is_gap : IsGap st place
  pub expected : gap.expected ≡ number_at terms place
  pub behind : place < later
  pub sent : later < length st.core.sent
  pub not_lost : IsLost st.core.lost later → ⊥
  pub between : (k : ℕ) → place ≤ k → k < later → IsLost st.core.lost k
  pub got : gap.got ≡ number_at terms later

-- A receiver is broken only behind a gap.
abbrev pub IsBrokenByLoss : {A : Type 0} → Terms → State A → Type 0
IsBrokenByLoss terms st = (gap : Gap) → st.core.receiver.broken ≡ Some gap → IsTold terms st gap

-- A status that tells a broken receiver: a SEQERR with the numbers of the first packet of the epoch that was
-- lost and of the first later one that wasn't, and with the transferred counts.
pub record IsGapStatus {A : Type 0} (terms : Terms) (st : State A) (status : Status) : Type 0 where
  pub gap : Gap
  pub told : IsTold terms st gap
  pub code : status.code ≡ SeqErr
  pub info : status.info ≡ number_at terms told.place * 65536 + number_at terms told.later
  pub counts : told_in status ≡ spelled (transferred st.core.receiver)

-- What an end with this receiver reports while it is broken is such a status.
abbrev pub ReportsGap : {A : Type 0} → Terms → State A → Type 0
ReportsGap terms st = (me : Epid) (gap : Gap) → st.core.receiver.broken ≡ Some gap
    → IsGapStatus terms st (status_of (record { me = me; flow = terms.flow; receiver = st.core.receiver }))

-- From a place of an epoch that was lost on, nothing of that epoch is given.
abbrev pub StopsAtLoss : {A : Type 0} → Terms → State A → Type 0
StopsAtLoss terms st = EachEpoch
    (λ from here. (k : ℕ) → IsLost st.core.lost k → from.sent ≤ k → k < here.sent
    → from.sent + (here.given - from.given) ≤ k)
    st.core.cuts (reach st.core.sent st.core.given)

-- how many epochs there are
abbrev pub epochs : {A : Type 0} → State A → ℕ
epochs st = length st.core.cuts + 1

-- There is at most one epoch more than there were losses. This counts both, and says of no epoch which
-- loss it follows.
abbrev pub HasFewEpochs : {A : Type 0} → Terms → State A → Type 0
HasFewEpochs terms st = epochs st ≤ 1 + st.core.losses

-- A count that is read back from its spelling is the count that was told.
abbrev pub ReadsBack : {A : Type 0} → Terms → State A → Type 0
ReadsBack terms st = (status : Told) (rest : List Told) → st.back ≡ status ∷ rest
    → spelled_minus st.core.sender.sent (spelled status.told) ≡ minus st.core.sender.sent status.told

-- A RESYNC that arrives tells all that was sent.
abbrev pub TellsTotals : {A : Type 0} → Terms → State A → Type 0
TellsTotals {A} terms st = (told : Count) (rest : List (Entry A))
    → st.forward ≡ Command Resync told ∷ rest → told ≡ st.core.sender.sent

-- A packet that arrives at a good receiver has the expected number only at the expected place.
abbrev pub NumbersTell : {A : Type 0} → Terms → State A → Type 0
NumbersTell {A} terms st = (place : ℕ) (load : Load A) (rest : List (Entry A))
    → st.forward ≡ Data place load ∷ rest
    → number_at terms place ≡ expected st.core.receiver
    → terms.start.packets + place ≡ st.core.receiver.reached.packets

-- The next packet's number is that of its place.
abbrev pub NumbersGoOn : {A : Type 0} → Terms → State A → Type 0
NumbersGoOn terms st = next_number st.core.sender ≡ number_at terms (length st.core.sent)

-- runs go on by an act, and one after another
abbrev pub GoesOn : Type 0 → Type 0
GoesOn A = (terms : Terms) (from to : State A) (act : Act A) → Leads terms from to
    → Allowed terms to act → Leads terms from (after terms to act)

abbrev pub Joins : Type 0 → Type 0
Joins A = (terms : Terms) (from mid to : State A) → Leads terms from mid → Leads terms mid to
    → Leads terms from to
