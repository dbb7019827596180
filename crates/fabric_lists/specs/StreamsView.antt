-- The streams of a network as contracts see them.
use Rattle.std.specs.Prelude.{ℕ, Bool, false, List, map, slice_index_or, slice_set}
use Rattle.net_machine.specs.Plans.{no_stream}
use Rattle.net_machine.specs.declared.plan.StreamPlan.{StreamPlan}
use Rattle.net_present.specs.Kept.{now_at}
use Rattle.net_present.specs.Present.{StreamNow}
use Rattle.fabric_parts.specs.Streams.{StreamSeen}

-- for what each stream was made, whether a Tx makes its packets, and what is kept of it
pub record StreamsSeen : Type 0 where
  pub plans : List StreamPlan
  pub txs : List Bool
  pub now : List StreamNow

abbrev pub plan_in : StreamSeen → StreamPlan
plan_in st = st.plan

abbrev pub tx_in : StreamSeen → Bool
tx_in st = st.is_tx

abbrev pub now_in : StreamSeen → StreamNow
now_in st = st.now

abbrev pub streams_of : List StreamSeen → StreamsSeen
streams_of parts = record { plans = map plan_in parts; txs = map tx_in parts; now = map now_in parts }

-- the plan of stream s, of these, and whether a Tx makes its packets
abbrev pub plan_seen : List StreamPlan → ℕ → StreamPlan
plan_seen plans s = slice_index_or plans s no_stream

abbrev pub tx_seen : List Bool → ℕ → Bool
tx_seen txs s = slice_index_or txs s false

-- what is kept of stream s changes
abbrev pub on_at : ℕ → (StreamNow → StreamNow) → StreamsSeen → StreamsSeen
on_at s next streams = record streams { now = slice_set streams.now s (next (now_at streams.now s)) }
