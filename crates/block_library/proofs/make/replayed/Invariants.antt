use Rattle.std.proofs.Common.{◌≡◌, ◌++◌, ◌∷◌, []}
use Rattle.std.specs.List.{flat_map, range_with_len}
use Rattle.block_library.proofs.make.replayed.Given as goal

-- the groups before this one are written
abbrev pub invariant-loop-turn : goal.invariant-loop-turn
invariant-loop-turn l = l.made.items ≡ flat_map (λ _. l.group ++ l.packet ∷ []) (range_with_len 0 l._turn)
