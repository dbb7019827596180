-- What the consumers of streams to Rx blocks have: for each stream, by its number, the list of what was handed out of it.
use Rattle.std.specs.Prelude.{◌≡◌, ℕ, ◌==◌, ◌&&◌, ◌++◌, Bool, true, List, [], length, Option, None, Some, slice_index_or, slice_set, if◌then◌else◌}
use Rattle.std.specs.List.{find, range_with_len}
use Rattle.chdr_packets.specs.declared.packet.Packet.{Packet}
use Rattle.net_machine.specs.Blocks.{has_packet}
use Rattle.net_machine.specs.Conditions.{ends_at_rx}
use Rattle.net_machine.specs.State.{State, Stream, stream_at}
use Rattle.net_present.specs.Kept.{now_at}
use Rattle.net_present.specs.Present.{Present}
use Rattle.stream_pump.specs.Supply.{KeepsRun}

-- what was handed out of stream s
abbrev pub drain_at : List (List Packet) → ℕ → List Packet
drain_at drains s = slice_index_or drains s []

-- what waits on stream s to be handed out
abbrev pub waiting_at : Present → ℕ → List Packet
waiting_at p s = (now_at p.streams s).waiting

-- all that was handed out of a stream is taken, and what waits is the rest of what was given
pub record IsTaken (taken waiting : List Packet) (st : Stream) : Type 0 where
  pub given : taken ++ waiting ≡ st.given
  pub count : st.taken ≡ length taken

-- so it is with each stream to an Rx
abbrev pub AreTaken : Present → State → List (List Packet) → Type 0
AreTaken p w drains = (s : ℕ) → ends_at_rx w.plan s ≡ true → IsTaken (drain_at drains s) (waiting_at p s) (stream_at w s)

-- something waits for the Rx of stream s
abbrev pub has_waiting : Present → ℕ → Bool
has_waiting p s = ends_at_rx p.plan s && has_packet (waiting_at p s)

-- the first stream to an Rx on which something waits
abbrev pub first_waiting : Present → Option ℕ
first_waiting p = find (has_waiting p) (range_with_len 0 (length p.streams))

-- what waits on stream t, once all of this stream was handed out
abbrev pub waiting_past : Option ℕ → Present → ℕ → List Packet
waiting_past None p t = waiting_at p t
waiting_past (Some s) p t = if t == s then [] else waiting_at p t

-- what was handed out of each stream then
abbrev pub drains_past : Option ℕ → Present → List (List Packet) → List (List Packet)
drains_past None p drains = drains
drains_past (Some s) p drains = slice_set drains s (drain_at drains s ++ waiting_at p s)

-- all that waited on stream s is handed out, and nothing of any other stream
pub record HandsOut (s : ℕ) (p q : Present) : Type 0 where
  pub run : KeepsRun p q
  pub none : waiting_at q s ≡ []
  pub others : (t : ℕ) → (t ≡ s → ⊥) → waiting_at q t ≡ waiting_at p t

-- all that waited on the first stream to an Rx with something is handed out; this is its number, if there is one
pub record HandsNext (first : Option ℕ) (p q : Present) (old new : List (List Packet)) : Type 0 where
  pub run : KeepsRun p q
  pub found : first ≡ first_waiting p
  pub waiting : (t : ℕ) → waiting_at q t ≡ waiting_past first p t
  pub drains : new ≡ drains_past first p old
