-- The acts of a stream: when each is allowed, and what it leaves. An act names what it moves, and no effect has cases:
-- the rules of both ends are those that the endpoints' calls keep.
use Rattle.std.specs.Prelude.{◌≡◌, ◌≢◌, ℕ, ◌+◌, ◌<◌, ◌≤◌, Bool, true, false, ◌&&◌, ◌==◌, not, Option, Some, None, List, [], ◌∷◌, ◌++◌, length}
use Rattle.std.specs.List.{AllByRecursion}
use Rattle.chdr_words.specs.declared.command.CmdOp.{CmdOp}
use Rattle.chdr_words.specs.declared.command.CmdOp.TheVariants.{Resync}
use Rattle.stream_endpoint.specs.declared.count.Count.{Count}
use Rattle.stream_endpoint.specs.declared.flow.Flow.{Flow}
use Rattle.stream_endpoint.specs.declared.state.Arrived.TheVariants.{Kept, Discarded, Gap as GapAt}
use Rattle.stream_endpoint.specs.Counts.{none, plus, one_of}
use Rattle.stream_endpoint.specs.Epochs.{ordered_by}
use Rattle.stream_endpoint.specs.Orders.{IsStuckAt, is_stuck_at, MayOrder as MayOrderWhen}
use Rattle.stream_endpoint.specs.Receiver.{arrival, expected, is_due}
use Rattle.stream_endpoint.specs.Sender.{Sender, MaySend}
use Rattle.stream_laws.specs.Machine.{Entry, Data, Command, Load, State, Terms, Told, number_at, told_by}
use Rattle.stream_laws.specs.Effects.{closes_core, drops_core, enters_core, fills_core, hears_core, keeps_core, loses_message, loses_packet, obeys_core, orders_core, renews_core, reports_core, takes_core}

pub data Act (A : Type 0) : Type 0 where
  -- the producer makes these
  Fill : List (Load A) → Act A
  -- the producer makes no more
  Close : Act A
  -- the first ready packet is sent, and these are still ready
  Enter : Load A → List (Load A) → Act A
  -- the sender gives a command
  Order : CmdOp → Act A
  -- the packet at this place arrives, and these are still under way: it is kept, breaks the receiver,
  -- or is discarded
  Keep : ℕ → Load A → List (Entry A) → Act A
  Break : ℕ → Load A → List (Entry A) → Act A
  Discard : ℕ → Load A → List (Entry A) → Act A
  -- an INIT or a PING arrives; a RESYNC arrives
  Obey : CmdOp → Count → List (Entry A) → Act A
  Renew : Count → List (Entry A) → Act A
  -- the consumer takes n packets more
  Take : ℕ → Act A
  -- the status that is due is sent
  Report : Act A
  -- a status arrives, and these are still under way
  Hear : Told → List Told → Act A
  -- between these before and behind it, a packet, a command or a status is lost
  LosePacket : List (Entry A) → ℕ → Load A → List (Entry A) → Act A
  LoseCommand : List (Entry A) → CmdOp → Count → List (Entry A) → Act A
  LoseStatus : List Told → Told → List Told → Act A

-- nothing of the stream is under way or due, and all that was given is taken
pub record IsQuiet {A : Type 0} (st : State A) : Type 0 where
  pub none_forward : st.forward ≡ []
  pub none_back : st.back ≡ []
  pub none_due : is_due st.core.receiver ≡ false
  pub all_taken : st.core.taken ≡ length st.core.given

-- the test of it
abbrev pub is_empty : {X : Type 0} → List X → Bool
is_empty [] = true
is_empty (x ∷ xs) = false

abbrev pub is_quiet : {A : Type 0} → State A → Bool
is_quiet st = is_empty st.forward && (is_empty st.back
    && (not (is_due st.core.receiver) && (st.core.taken == length st.core.given)))

-- the wire size of the next packet
abbrev pub next_wire : {A : Type 0} → List (Load A) → Option ℕ
next_wire [] = None
next_wire (load ∷ rest) = Some load.wire

-- the producer can't go on: its next packet has no credit, or it has none and makes no more
abbrev pub IsStuck : {A : Type 0} → Flow → Count → Bool → List (Load A) → Type 0
IsStuck flow outstanding closed ready = IsStuckAt flow outstanding closed (next_wire ready)

-- the test of it
abbrev pub is_stuck : {A : Type 0} → Terms → State A → Bool
is_stuck terms st = is_stuck_at terms.flow st.core.sender.outstanding st.core.closed (next_wire st.core.ready)

-- INIT and RESYNC are sent in their states, and again once their answer can't come any more; a PING when
-- the stream is quiet and its producer can't go on
abbrev pub MayOrder : {A : Type 0} → Terms → State A → CmdOp → Type 0
MayOrder terms st op = MayOrderWhen st.core.sender (IsQuiet st)
    (IsStuck terms.flow st.core.sender.outstanding st.core.closed st.core.ready) op

-- the whole counts of a command
abbrev pub ordered : Terms → Sender → CmdOp → Count
ordered terms s op = ordered_by terms.flow s op

abbrev pub Allowed : {A : Type 0} → Terms → State A → Act A → Type 0
Allowed terms st (Fill loads) =
    (st.core.closed ≡ false) × AllByRecursion (λ load. load.wire ≤ terms.flow.cap_bytes) loads
Allowed terms st Close = Unit {0}
Allowed terms st (Enter load rest) = (st.core.ready ≡ load ∷ rest) × MaySend terms.flow st.core.sender load.wire
Allowed terms st (Order op) = MayOrder terms st op
Allowed terms st (Keep place load rest) =
    (st.forward ≡ Data place load ∷ rest)
    × (arrival st.core.receiver.broken (expected st.core.receiver) (number_at terms place) ≡ Kept)
Allowed terms st (Break place load rest) =
    (st.forward ≡ Data place load ∷ rest)
    × (arrival st.core.receiver.broken (expected st.core.receiver) (number_at terms place)
    ≡ GapAt (expected st.core.receiver) (number_at terms place))
Allowed terms st (Discard place load rest) =
    (st.forward ≡ Data place load ∷ rest)
    × (arrival st.core.receiver.broken (expected st.core.receiver) (number_at terms place) ≡ Discarded)
Allowed terms st (Obey op told rest) = (st.forward ≡ Command op told ∷ rest) × (op ≢ Resync)
Allowed terms st (Renew told rest) = st.forward ≡ Command Resync told ∷ rest
Allowed terms st (Take n) = (0 < n) × (st.core.taken + n ≤ length st.core.given)
Allowed terms st Report = is_due st.core.receiver ≡ true
Allowed terms st (Hear status rest) = st.back ≡ status ∷ rest
Allowed terms st (LosePacket before place load behind) = st.forward ≡ before ++ Data place load ∷ behind
Allowed terms st (LoseCommand before op told behind) = st.forward ≡ before ++ Command op told ∷ behind
Allowed terms st (LoseStatus before status behind) = st.back ≡ before ++ status ∷ behind

abbrev pub after : {A : Type 0} → Terms → State A → Act A → State A
after terms st (Fill loads) = record st { core = fills_core loads st.core }
after terms st Close = record st { core = closes_core st.core }
after terms st (Enter load rest) = record st {
  core = enters_core load rest st.core;
  forward = st.forward ++ Data (length st.core.sent) load ∷ [];
}
after terms st (Order op) = record st {
  core = orders_core op st.core;
  forward = st.forward ++ Command op (ordered terms st.core.sender op) ∷ [];
}
after terms st (Keep place load rest) = record st {
  core = keeps_core (number_at terms place) load st.core;
  forward = rest;
  next = place + 1;
}
after terms st (Break place load rest) = record st {
  core = drops_core (number_at terms place) load st.core;
  forward = rest;
  next = place + 1;
  missing = plus st.missing (one_of load.wire);
}
after terms st (Discard place load rest) = record st {
  core = drops_core (number_at terms place) load st.core;
  forward = rest;
  next = place + 1;
  missing = plus st.missing (one_of load.wire);
}
after terms st (Obey op told rest) = record st { core = obeys_core op told st.core; forward = rest }
after terms st (Renew told rest) = record st {
  core = renews_core told st.core;
  forward = rest;
  next = length st.core.sent;
  missing = none;
}
after terms st (Take n) = record st { core = takes_core n st.core }
after terms st Report = record st {
  core = reports_core st.core;
  back = st.back ++ told_by st.core.receiver ∷ [];
}
after terms st (Hear status rest) = record st {
  core = hears_core terms.policy status st.core;
  back = rest;
}
after terms st (LosePacket before place load behind) = record st {
  core = loses_packet place st.core;
  forward = before ++ behind;
  missing = plus st.missing (one_of load.wire);
}
after terms st (LoseCommand before op told behind) = record st {
  core = loses_message st.core;
  forward = before ++ behind;
}
after terms st (LoseStatus before status behind) = record st {
  core = loses_message st.core;
  back = before ++ behind;
}

-- a list of acts, one after another, is allowed from a state on
abbrev pub IsLegal : {A : Type 0} → Terms → State A → List (Act A) → Type 0
IsLegal terms st [] = Unit {0}
IsLegal terms st (act ∷ acts) = Allowed terms st act × IsLegal terms (after terms st act) acts

abbrev pub after_all : {A : Type 0} → Terms → State A → List (Act A) → State A
after_all terms st [] = st
after_all terms st (act ∷ acts) = after_all terms (after terms st act) acts

-- some legal list of acts leads from one state to the other
pub record Leads {A : Type 0} (terms : Terms) (from to : State A) : Type 0 where
  pub acts : List (Act A)
  pub legal : IsLegal terms from acts
  pub there : after_all terms from acts ≡ to
