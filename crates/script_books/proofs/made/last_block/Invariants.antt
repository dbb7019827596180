use Rattle.std.proofs.Common.{◌≡◌}
use Rattle.script_books.specs.Made.{last_place, makes_block}
use Rattle.script_books.proofs.made.last_block.Given as goal

-- the last one of the places so far
abbrev pub invariant-loop-place : goal.invariant-loop-place
invariant-loop-place l = l.found ≡ last_place (makes_block l.block) l.books l.place
