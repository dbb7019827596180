-- A configuration address and its value, in the payload of 48 bits of one operation.
use Rattle.std.specs.Prelude.{ℕ, ◌+◌, ◌*◌, ◌^◌}
use Rattle.chdr_words.specs.Field.{field}
use Rattle.chdr_words.specs.declared.node_info.Cfg.{Cfg}

-- the payload: value 47..16, address 15..0
abbrev pub cfg_payload : Cfg → ℕ
cfg_payload cfg = cfg.value * 2 ^ 16 + cfg.addr

-- the pair that a payload spells
abbrev pub cfg_of : ℕ → Cfg
cfg_of payload = record { value = field payload 47 16; addr = field payload 15 0 }
