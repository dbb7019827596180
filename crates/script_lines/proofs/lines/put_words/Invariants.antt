use Rattle.std.proofs.Common.{◌≡◌, ◌+◌, ◌*◌, ◌≤◌, ◌++◌, length}
use Rattle.std.specs.Prelude.{codes, decimal}
use Rattle.script_lines.specs.Lines.{each, line_at}
use Rattle.script_lines.specs.Page.{◌&◌}
use Rattle.script_lines.proofs.lines.put_words.Given as goal

-- the first words were put
abbrev pub invariant-loop-place : goal.invariant-loop-place
invariant-loop-place l = record {
  text : l.page ≡ l.initial.page ++ each (line_at (λ _ word. codes " " & decimal word) l.words) l.place;
  short : length l.page ≤ length l.initial.page + 21 * l.place;
}
