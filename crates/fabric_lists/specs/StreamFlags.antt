-- Which streams may have an event to choose, as far as each tells by itself.
use Rattle.std.specs.Prelude.{ℕ, ◌+◌, ◌*◌, ◌<◌, ◌==◌, ◌&&◌, not, nat_lt, Bool, true, List, [], ◌∷◌, if◌then◌else◌, length, map, slice_set}
use Rattle.std.specs.List.{flat_map}
use Rattle.chdr_words.specs.declared.command.CmdOp.{CmdOp}
use Rattle.chdr_words.specs.declared.command.CmdOp.TheVariants.{Init, Ping, Resync}
use Rattle.stream_endpoint.specs.Orders.{may_order}
use Rattle.stream_endpoint.specs.Receiver.{is_due}
use Rattle.net_machine.specs.Conditions.{can_send, is_stuck}
use Rattle.net_present.specs.Present.{StreamNow, front_now_of}
use Rattle.fabric_parts.specs.Streams.{StreamSeen}
use Rattle.fabric_lists.specs.declared.stream_flags.StreamFlags.{StreamFlags}

-- the first ready packet has credit, and it was offered if a Tx makes it
abbrev pub is_sending : StreamSeen → Bool
is_sending st = can_send st.plan.flow (front_now_of st.now) st.now.ready && (if st.is_tx then nat_lt 0 st.now.offered else true)

-- a status is to be sent
abbrev pub is_owing : StreamSeen → Bool
is_owing st = is_due st.now.receiver

-- as far as the stream tells it is quiet: no status is due, and all that was given is taken
abbrev pub is_calm : StreamNow → Bool
is_calm st = not (is_due st.receiver) && (st.taken == st.given)

-- as far as the stream tells a command may be sent, if its producer is finished
abbrev pub could_order : CmdOp → StreamSeen → Bool
could_order op st = may_order st.now.sender (is_calm st.now) (is_stuck st.plan.flow (front_now_of st.now) true st.now.ready) op

-- which of the three commands it may be
abbrev pub orders_in : StreamSeen → List Bool
orders_in st = could_order Init st ∷ could_order Ping st ∷ could_order Resync st ∷ []

-- the flags of these streams: of stream s those of its commands stand from 3 s on
abbrev pub flags_of : List StreamSeen → StreamFlags
flags_of parts = record { sending = map is_sending parts; owing = map is_owing parts; ordering = flat_map orders_in parts }

-- what is so of stream s is set
abbrev pub noted : ℕ → StreamSeen → StreamFlags → StreamFlags
noted s st flags = record {
  sending = slice_set flags.sending s (is_sending st);
  owing = slice_set flags.owing s (is_owing st);
  ordering = slice_set (slice_set (slice_set flags.ordering (3 * s) (could_order Init st)) (3 * s + 1) (could_order Ping st)) (3 * s + 2) (could_order Resync st);
}

-- there are flags for stream s
pub record HasStream (flags : StreamFlags) (s : ℕ) : Type 0 where
  pub sending : s < length flags.sending
  pub owing : s < length flags.owing
  pub ordering : 3 * s + 2 < length flags.ordering
