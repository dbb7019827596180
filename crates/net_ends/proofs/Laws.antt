-- The laws of ends, with their proofs, for the proofs of other crates.
use Rattle.net_ends.specs.Complete.{AllEndPlain, LinesArePlain}
use Rattle.net_ends.specs.Made.{MadeIsBounded}
use Rattle.net_ends.specs.Rest.{AllAreDrained, EndsHaveCauses, StillIsEmpty}
use Rattle.net_ends.proofs.Bounding.{made-bounded}
use Rattle.net_ends.proofs.Completing.{all-end_plain, lines-plain}
use Rattle.net_ends.proofs.Resting.{all-drained, ends-have_causes}
use Rattle.net_ends.proofs.Stillness.{still-empty}

pub made_is_bounded : MadeIsBounded
made_is_bounded = made-bounded

pub still_is_empty : StillIsEmpty
still_is_empty = still-empty

pub ends_have_causes : EndsHaveCauses
ends_have_causes = ends-have_causes

pub all_are_drained : AllAreDrained
all_are_drained = all-drained

pub all_end_plain : AllEndPlain
all_end_plain = all-end_plain

pub lines_are_plain : LinesArePlain
lines_are_plain = lines-plain
