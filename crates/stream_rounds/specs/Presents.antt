-- What offering and handing out change of a present, and nothing else.
use Rattle.std.specs.Prelude.{ℕ, List}
use Rattle.chdr_packets.specs.declared.packet.Packet.{Packet}
use Rattle.net_present.specs.Kept.{now_at}
use Rattle.net_present.specs.Onward.{on_now}
use Rattle.net_present.specs.Present.{Present, StreamNow}

-- stream s of a present
abbrev pub at : Present → ℕ → StreamNow
at p s = now_at p.streams s

-- n packets of the stream are offered
abbrev pub with_offered : ℕ → StreamNow → StreamNow
with_offered n st = record st { offered = n }

-- these packets wait on the stream to be handed out
abbrev pub with_waiting : List Packet → StreamNow → StreamNow
with_waiting ps st = record st { waiting = ps }

-- n packets of stream s are offered
abbrev pub offering : ℕ → ℕ → Present → Present
offering s n p = on_now s (with_offered n) p

-- these packets wait on stream s
abbrev pub handing : ℕ → List Packet → Present → Present
handing s ps p = on_now s (with_waiting ps) p
