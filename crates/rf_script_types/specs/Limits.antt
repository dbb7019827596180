-- What a version of the language allows.
use Rattle.std.specs.Prelude.{ℕ, ◌==◌, if◌then◌else◌}

abbrev pub command_limit : ℕ → ℕ
command_limit version = if version == 2 then 1024 else 256

abbrev pub node_limit : ℕ → ℕ
node_limit version = if version == 2 then 256 else 64

abbrev pub lose_limit : ℕ → ℕ
lose_limit version = if version == 2 then 256 else 64
