use Rattle.std.proofs.Common.{◌≡◌, ◌++◌, take}
use Rattle.capture_tool.specs.Listing.{words_text}
use Rattle.capture_tool.proofs.line.put_words.Given as goal

abbrev pub invariant-loop-word : goal.invariant-loop-word
invariant-loop-word l = l.out ≡ l.initial.out ++ words_text (take l.word-index l.words)
