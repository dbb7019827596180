-- When each Tx has offered what it may send next.
use Rattle.std.specs.Prelude.{◌≡◌, ℕ, ◌<◌, true}
use Rattle.net_machine.specs.Blocks.{has_packet}
use Rattle.net_present.specs.Kept.{now_at}
use Rattle.net_present.specs.Present.{Present}
use Rattle.fabric_lists.specs.Opened.{is_tx_stream}

-- stream s isn't of a Tx, or nothing is ready on it, or something of that was offered
abbrev pub IsSupplied : Present → ℕ → Type 0
IsSupplied p s = is_tx_stream p.plan s ≡ true → has_packet (now_at p.streams s).ready ≡ true → 0 < (now_at p.streams s).offered

-- so it is with each stream
abbrev pub AreSupplied : Present → Type 0
AreSupplied p = (s : ℕ) → IsSupplied p s
