-- What statuses and commands may be under way, by the state of the sender.
use Rattle.std.specs.Prelude.{◌≡◌, ℕ, ◌+◌, ◌≤◌, Bool, true, false, Option, List, length}
use Rattle.std.specs.List.{AllByRecursion}
use Rattle.chdr_words.specs.declared.command.CmdOp.TheVariants.{Init, Ping, Resync}
use Rattle.stream_endpoint.specs.declared.count.Count.{Count}
use Rattle.stream_endpoint.specs.declared.flow.Flow.{Flow}
use Rattle.stream_endpoint.specs.declared.flow.Policy.{Policy}
use Rattle.stream_endpoint.specs.declared.flow.Policy.TheVariants.{Auto, Off}
use Rattle.stream_endpoint.specs.declared.state.Gap.{Gap}
use Rattle.stream_endpoint.specs.declared.state.OutState.{OutState}
use Rattle.stream_endpoint.specs.declared.state.OutState.TheVariants.{Opening, Running, Halted, Resyncing}
use Rattle.stream_endpoint.specs.Counts.{is_none, none}
use Rattle.stream_endpoint.specs.Flow.{frequency}
use Rattle.stream_endpoint.specs.Receiver.{is_due, transferred}
use Rattle.stream_endpoint.specs.Sender.{known}
use Rattle.stream_laws.specs.Machine.{Entry, Load, State, Terms, Told}
use Rattle.stream_laws.specs.Acts.{IsStuck}
use Rattle.stream_laws.specs.Chains.{EndsWith, Rises, bad_told, badness, bytes_told, flying, good_told, goodness, orders, packets_told}
use Rattle.stream_laws.specs.Epochs.{EachEpoch, IsEpoch, begun, reach}
use Rattle.stream_laws.specs.Invariant.{Balanced, Counted, Credited, Ordered, Paid, Received, Rising, Started, Unhurt, dues}

-- commands under way, a status due, and statuses under way
abbrev pub traffic : {A : Type 0} → List (Entry A) → Bool → List Told → ℕ
traffic forward due back = orders forward + dues due + length back

pub record InOpening {A : Type 0} (flow : Flow) (sent given : List (Load A)) (forward : List (Entry A))
    (back : List Told) (due : Bool)
    (broken : Option Gap) (missing : ℕ) (commanded : Bool) : Type 0 where
  pub none_sent : length sent ≡ 0
  pub none_given : length given ≡ 0
  pub no_data : (flying forward).packets ≡ 0
  pub none_missing : missing ≡ 0
  pub good : badness broken ≡ 0
  pub all_good : Rises bad_told 0 back 0
  pub order : EndsWith Init (frequency flow) forward
  pub one : traffic forward due back ≤ 1
  pub silent : commanded ≡ false → traffic forward due back ≡ 0

-- from a PING to its answer nothing else goes on
pub record IsPinging {A : Type 0} (flow : Flow) (outstanding moved held : Count) (closed : Bool)
    (ready : List (Load A))
    (forward : List (Entry A)) (back : List Told) (due : Bool) : Type 0 where
  pub one : traffic forward due back ≤ 1
  pub no_data : (flying forward).packets ≡ 0
  pub all_taken : held.packets ≡ 0
  pub stuck : IsStuck flow outstanding closed ready
  pub owing : is_none outstanding ≡ false
  pub exact_packets : Rises packets_told moved.packets back moved.packets
  pub exact_bytes : Rises bytes_told moved.bytes back moved.bytes

pub record InRunning {A : Type 0} (flow : Flow) (outstanding moved held : Count) (closed : Bool)
    (ready : List (Load A))
    (forward : List (Entry A)) (back : List Told) (due : Bool) (broken : Option Gap) (missing : ℕ)
    (pinging : Bool) : Type 0 where
  pub worse : Rises bad_told 0 back (badness broken)
  pub some_missing : badness broken ≤ missing
  pub order : EndsWith Ping none forward
  pub unasked : pinging ≡ false → orders forward ≡ 0
  pub asked : pinging ≡ true → IsPinging flow outstanding moved held closed ready forward back due

pub record InHalted {A : Type 0} (policy : Policy) (forward : List (Entry A))
    (missing : ℕ) : Type 0 where
  pub off : policy ≡ Off
  pub some_missing : 1 ≤ missing
  pub no_order : orders forward ≡ 0

-- no RESYNC of this state has arrived
pub record IsBefore {A : Type 0} (held : ℕ) (forward : List (Entry A)) (back : List Told) (due : Bool)
    (broken : Option Gap) (commanded : Bool) : Type 0 where
  pub all_bad : Rises good_told 0 back 0
  pub unsent : commanded ≡ false → orders forward ≡ 0
  pub still : goodness broken ≡ 1 → length back + dues due + (flying forward).packets + held ≡ 0

-- a RESYNC of this state has arrived
pub record IsBehind {A : Type 0} (held : ℕ) (forward : List (Entry A)) (back : List Told) (due : Bool)
    (broken : Option Gap) (commanded : Bool) : Type 0 where
  pub no_data : (flying forward).packets ≡ 0
  pub good : goodness broken ≡ 1
  pub better : Rises good_told 0 back 1
  pub was_sent : commanded ≡ true
  pub again : 1 ≤ orders forward → length back + dues due + held ≡ 0

-- whether such a RESYNC has arrived shows in what is missing
pub record InResyncing {A : Type 0} (policy : Policy) (total held : Count) (forward : List (Entry A))
    (back : List Told) (due : Bool)
    (broken : Option Gap) (missing : ℕ) (pinging commanded : Bool) : Type 0 where
  pub auto : policy ≡ Auto
  pub unasked : pinging ≡ false
  pub order : EndsWith Resync total forward
  pub before : 1 ≤ missing → IsBefore held.packets forward back due broken commanded
  pub behind : missing ≡ 0 → IsBehind held.packets forward back due broken commanded

abbrev pub Talk : {A : Type 0} → Terms → OutState → State A → Type 0
Talk terms Opening st = InOpening terms.flow st.core.sent st.core.given st.forward st.back (is_due st.core.receiver)
    st.core.receiver.broken st.missing.packets st.core.sender.commanded
Talk terms Running st = InRunning terms.flow st.core.sender.outstanding
    (transferred st.core.receiver) st.core.receiver.buffered st.core.closed st.core.ready
    st.forward st.back (is_due st.core.receiver) st.core.receiver.broken st.missing.packets st.core.sender.pinging
Talk terms Halted st = InHalted terms.policy st.forward st.missing.packets
Talk terms Resyncing st = InResyncing terms.policy st.core.sender.sent st.core.receiver.buffered st.forward
    st.back (is_due st.core.receiver)
    st.core.receiver.broken st.missing.packets st.core.sender.pinging st.core.sender.commanded

-- the whole invariant of a stream
pub record Holds {A : Type 0} (terms : Terms) (st : State A) : Type 0 where
  pub small : AllByRecursion (λ load. load.wire ≤ terms.flow.cap_bytes) st.core.ready
  pub counted : Counted terms.start st.core.sent st.core.given st.core.taken st.core.sender.sent st.core.receiver.buffered
  pub balanced : Balanced st.core.sender.sent st.core.receiver.reached st.core.receiver.buffered
      (flying st.forward) st.missing
  pub credited : Credited terms.flow st.core.sender.sent st.core.sender.outstanding
  pub started : Started terms.start (known st.core.sender)
  pub rising : Rising (known st.core.sender) (transferred st.core.receiver) st.back
  pub ordered : Ordered st.core.sent st.core.lost st.next st.forward
  pub received : Received terms.start.packets st.core.receiver.reached.packets st.next st.core.given st.core.lost
      (begun st.core.cuts) st.core.receiver.broken
  pub epochs : EachEpoch (IsEpoch st.core.sent st.core.given st.core.lost) st.core.cuts (reach st.core.sent st.core.given)
  pub paid : Paid st.core.sender.state st.missing.packets st.core.cuts st.back (is_due st.core.receiver) st.core.losses
  pub unhurt : Unhurt st.core.sender.state st.missing.packets st.core.cuts st.core.lost
  pub talk : Talk terms st.core.sender.state st
