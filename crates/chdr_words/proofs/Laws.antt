-- The laws of words and payloads that the crates above may cite, each with its proof.
use Rattle.std.proofs.Common.{ℕ, ◌^◌, Ok, sym}
use Rattle.std.specs.Int.{w64, to_le_bytes}
use Rattle.chdr_words.specs.Field.{word_at}
use Rattle.chdr_words.specs.Laws.{CommandRead, CommandUnique, ControlRead, ControlReads, ControlSpelled, ControlUnique, FirstEach, FrontIsBytes, LengthEach, ManagementRead, ManagementReads, ManagementSpelled, ManagementUnique, MoreEach, NoneEach, StatusRead, StatusUnique, WordAtFront, WordBelow, WordsAtFront, WordsWhole, WordsWritten}
use Rattle.chdr_words.proofs.WordLemmas as words
use Rattle.chdr_words.proofs.PlainLemmas as plain
use Rattle.chdr_words.proofs.ControlLemmas as controls
use Rattle.chdr_words.proofs.ControlWriting as writing
use Rattle.chdr_words.proofs.ManagementReading as managements

pub small_take : FrontIsBytes
small_take = managements.small_take

pub word_at-below : WordBelow
word_at-below = managements.word_at-below

pub word_at-front : WordAtFront
word_at-front = words.word_at-front

pub words_at-front : WordsAtFront
words_at-front = words.words_at-front

pub each_at-none : NoneEach
each_at-none = words.each_at-none

pub each_at-more : MoreEach
each_at-more = words.each_at-more

pub each_at-cons : FirstEach
each_at-cons = words.each_at-cons

pub length-each_at : LengthEach
length-each_at = words.length-each_at

pub words_at-written : WordsWritten
words_at-written = words.each_at-written (to_le_bytes w64) word_at 8 (2 ^ 64) words.word_code

pub words_whole : WordsWhole
words_whole = managements.words_whole

pub status_takes : StatusRead
status_takes = plain.status_takes

pub status_again : StatusUnique
status_again = plain.status_again

pub command_takes : CommandRead
command_takes = plain.command_takes

pub command_again : CommandUnique
command_again = plain.command_again

pub control_takes : ControlRead
control_takes = controls.control_takes

pub control_reads : ControlReads
control_reads bytes c e = controls.control_reads bytes (Ok c) (sym e)

pub control_again : ControlUnique
control_again = controls.control_again

pub control_spelled : ControlSpelled
control_spelled = writing.control_spelled

pub management_takes : ManagementRead
management_takes = managements.management_takes

pub management_reads : ManagementReads
management_reads bytes m small e = managements.management_reads bytes (Ok m) small e

pub management_again : ManagementUnique
management_again = managements.management_again

pub management_spelled : ManagementSpelled
management_spelled = managements.management_spelled
