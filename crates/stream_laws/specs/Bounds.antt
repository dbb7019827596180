-- Laws of counts: what is known, outstanding, buffered and taken in each state that a legal run leaves.
use Rattle.std.specs.Prelude.{◌≡◌, ℕ, ◌+◌, ◌≤◌, Bool, true, false, length, take, drop}
use Rattle.stream_endpoint.specs.Counts.{plus}
use Rattle.stream_endpoint.specs.Sender.{known}
use Rattle.stream_laws.specs.Machine.{State, Terms, count_of}
use Rattle.stream_laws.specs.Acts.{Act, Allowed, after, Fill, Close, Enter, Order, Keep, Break, Discard, Obey, Renew, Take, Report, Hear, LosePacket, LoseCommand, LoseStatus}

-- The known counts are at least the start, and make up with what is outstanding all that was sent. What is
-- outstanding is within the capacity.
pub record IsKnown {A : Type 0} (terms : Terms) (st : State A) : Type 0 where
  pub from_packets : terms.start.packets ≤ (known st.core.sender).packets
  pub from_bytes : terms.start.bytes ≤ (known st.core.sender).bytes
  pub all : plus (known st.core.sender) st.core.sender.outstanding ≡ st.core.sender.sent
  pub packets : st.core.sender.outstanding.packets ≤ terms.flow.cap_packets
  pub bytes : st.core.sender.outstanding.bytes ≤ terms.flow.cap_bytes

-- What is buffered is within the capacity, and part of what was reached.
pub record IsHeld {A : Type 0} (terms : Terms) (st : State A) : Type 0 where
  pub packets : st.core.receiver.buffered.packets ≤ terms.flow.cap_packets
  pub bytes : st.core.receiver.buffered.bytes ≤ terms.flow.cap_bytes
  pub reached_packets : st.core.receiver.buffered.packets ≤ st.core.receiver.reached.packets
  pub reached_bytes : st.core.receiver.buffered.bytes ≤ st.core.receiver.reached.bytes

-- What the consumer takes was buffered.
abbrev pub TakesOfBuffered : {A : Type 0} → Terms → State A → Type 0
TakesOfBuffered terms st = (n : ℕ) → st.core.taken + n ≤ length st.core.given
    → ((count_of (take n (drop st.core.taken st.core.given))).packets ≤ st.core.receiver.buffered.packets)
    × ((count_of (take n (drop st.core.taken st.core.given))).bytes ≤ st.core.receiver.buffered.bytes)

-- whether an act sends a packet
abbrev pub is_enter : {A : Type 0} → Act A → Bool
is_enter (Fill loads) = false
is_enter Close = false
is_enter (Enter load rest) = true
is_enter (Order op) = false
is_enter (Keep place load rest) = false
is_enter (Break place load rest) = false
is_enter (Discard place load rest) = false
is_enter (Obey op told rest) = false
is_enter (Renew told rest) = false
is_enter (Take n) = false
is_enter Report = false
is_enter (Hear status rest) = false
is_enter (LosePacket before place load behind) = false
is_enter (LoseCommand before op told behind) = false
is_enter (LoseStatus before status behind) = false

-- Only an Enter raises what is outstanding.
abbrev pub OnlyEntersRaise : {A : Type 0} → Terms → State A → Type 0
OnlyEntersRaise {A} terms st = (act : Act A) → Allowed terms st act → is_enter act ≡ false
    → ((after terms st act).core.sender.outstanding.packets ≤ st.core.sender.outstanding.packets)
    × ((after terms st act).core.sender.outstanding.bytes ≤ st.core.sender.outstanding.bytes)
