-- How a stream comes to rest.
use Rattle.std.specs.Prelude.{◌≡◌, ◌≤◌, ◌⊎◌, true, false, List, [], length, take}
use Rattle.chdr_words.specs.declared.command.CmdOp.{CmdOp}
use Rattle.stream_endpoint.specs.declared.flow.Policy.TheVariants.{Off}
use Rattle.stream_endpoint.specs.declared.state.OutState.TheVariants.{Running, Halted}
use Rattle.stream_endpoint.specs.Sender.{is_covered}
use Rattle.stream_laws.specs.Machine.{Load, State, Terms}
use Rattle.stream_laws.specs.Acts.{Act, Allowed, IsQuiet, after, Fill, Close, Enter, Order, Keep, Break, Discard, Obey, Renew, Take, Report, Hear, LosePacket, LoseCommand, LoseStatus}

-- all that the producer made was sent, and all of that is known to be transferred
pub record IsDrained {A : Type 0} (st : State A) : Type 0 where
  pub closed : st.core.closed ≡ true
  pub none_ready : st.core.ready ≡ []
  pub running : st.core.sender.state ≡ Running
  pub covered : is_covered st.core.sender ≡ true
  pub all_taken : st.core.taken ≡ length st.core.given

-- A drained stream that lost no packet has given, and its consumer has taken, all that was sent.
abbrev pub GivesAll : {A : Type 0} → Terms → State A → Type 0
GivesAll terms st = IsDrained st → st.core.lost ≡ []
    → (st.core.given ≡ st.core.sent) × (take st.core.taken st.core.given ≡ st.core.sent)

-- A drained stream stays drained, whatever happens.
abbrev pub StaysDrained : {A : Type 0} → Terms → State A → Type 0
StaysDrained {A} terms st = IsDrained st → (act : Act A) → Allowed terms st act
    → IsDrained (after terms st act)

-- an act of the stream itself: neither its producer's, nor a loss
abbrev pub IsOwn : {A : Type 0} → Act A → Type 0
IsOwn (Fill loads) = ⊥
IsOwn Close = ⊥
IsOwn (Enter load rest) = Unit {0}
IsOwn (Order op) = Unit {0}
IsOwn (Keep place load rest) = Unit {0}
IsOwn (Break place load rest) = Unit {0}
IsOwn (Discard place load rest) = Unit {0}
IsOwn (Obey op told rest) = Unit {0}
IsOwn (Renew told rest) = Unit {0}
IsOwn (Take n) = Unit {0}
IsOwn Report = Unit {0}
IsOwn (Hear status rest) = Unit {0}
IsOwn (LosePacket before place load behind) = ⊥
IsOwn (LoseCommand before op told behind) = ⊥
IsOwn (LoseStatus before status behind) = ⊥

-- A stream of whose own acts none is allowed is quiet.
abbrev pub IsQuietAtRest : {A : Type 0} → Terms → State A → Type 0
IsQuietAtRest {A} terms st = ((act : Act A) → IsOwn act → Allowed terms st act → ⊥) → IsQuiet st

-- a stream that a loss has halted, which its policy allows
pub record IsHalted {A : Type 0} (terms : Terms) (st : State A) : Type 0 where
  pub state : st.core.sender.state ≡ Halted
  pub off : terms.policy ≡ Off
  pub some_lost : 1 ≤ length st.core.lost

-- a stream that has nothing to send, and whose producer isn't finished
pub record Waits {A : Type 0} (st : State A) : Type 0 where
  pub running : st.core.sender.state ≡ Running
  pub none_ready : st.core.ready ≡ []
  pub goes_on : st.core.closed ≡ false

-- A quiet stream whose sender can do nothing is drained, or halted by a loss, or waits for its
-- producer.
abbrev pub EndsWell : {A : Type 0} → Terms → State A → Type 0
EndsWell {A} terms st = IsQuiet st
    → ((load : Load A) (rest : List (Load A)) → Allowed terms st (Enter load rest) → ⊥)
    → ((op : CmdOp) → Allowed terms st (Order op) → ⊥)
    → IsDrained st ⊎ (IsHalted terms st ⊎ Waits st)
