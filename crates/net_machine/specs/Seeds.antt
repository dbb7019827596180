-- The seed by which an event is chosen.
use Rattle.std.specs.Prelude.{ℕ, ◌+◌, ◌*◌, ◌/◌, ◌%◌, ◌^◌, ◌==◌, if◌then◌else◌}

-- the seed after a choice; 0 stays
abbrev pub next_seed : ℕ → ℕ
next_seed seed = if seed == 0 then 0 else (seed * 6364136223846793005 + 1442695040888963407) % 2 ^ 64

-- the place that a seed takes among n events
abbrev pub place_in : ℕ → ℕ → ℕ
place_in count seed = seed / 2 ^ 33 % count
