use Rattle.std.proofs.Common.{◌≡◌}
use Rattle.script_books.specs.Made.{last_place, makes_stream}
use Rattle.script_books.proofs.made.last_stream.Given as goal

-- the last one of the places so far
abbrev pub invariant-loop-place : goal.invariant-loop-place
invariant-loop-place l = l.found ≡ last_place (makes_stream l.stream) l.books l.place
