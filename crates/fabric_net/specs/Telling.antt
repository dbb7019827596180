-- What a net tells of its streams, blocks and tables.
use Rattle.std.specs.Prelude.{ℕ, if◌then◌else◌}
use Rattle.net_machine.specs.Blocks.{is_drained}
use Rattle.net_machine.specs.declared.tally.StreamEnd.{StreamEnd}
use Rattle.net_machine.specs.declared.tally.StreamEnd.TheVariants.{Drained}
use Rattle.net_present.specs.Kept.{now_at}
use Rattle.net_present.specs.Present.{Present, front_now}
use Rattle.fabric_parts.specs.Streams.{undrained_now}

-- how stream s stands
abbrev pub end_now : Present → ℕ → StreamEnd
end_now p s = if is_drained (front_now p) s then Drained else undrained_now (now_at p.streams s)
