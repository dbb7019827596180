-- The laws of whole runs, with their proofs, for the proofs of other crates.
use Rattle.net_runs.specs.Runs.{BeginsWithoutLosses, LawfulWeightFalls, LegalJournalsEnd, OnlyLosesCount, WholeRunsEnd, WholeRunsEndPlain}
use Rattle.net_runs.specs.Lossless.{LosslessGoesOn, NothingNamedNothingLost, ResynchronisingRunsDrain}
use Rattle.net_runs.proofs.Lasting.{begun-lost, event-lost}
use Rattle.net_runs.proofs.Lossless.{goes-on, nothing-lost}
use Rattle.net_runs.proofs.Runs.{lawful-falls, legal-end, resynchronising-drain, whole-end, whole-end_plain}

pub lawful_weight_falls : LawfulWeightFalls
lawful_weight_falls = lawful-falls

pub legal_journals_end : LegalJournalsEnd
legal_journals_end = legal-end

pub begins_without_losses : BeginsWithoutLosses
begins_without_losses = begun-lost

pub only_loses_count : OnlyLosesCount
only_loses_count = event-lost

pub whole_runs_end : WholeRunsEnd
whole_runs_end = whole-end

pub whole_runs_end_plain : WholeRunsEndPlain
whole_runs_end_plain = whole-end_plain

pub lossless_goes_on : LosslessGoesOn
lossless_goes_on = goes-on

pub nothing_named_nothing_lost : NothingNamedNothingLost
nothing_named_nothing_lost = nothing-lost

pub resynchronising_runs_drain : ResynchronisingRunsDrain
resynchronising_runs_drain = resynchronising-drain
