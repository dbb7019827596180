-- The laws of captures and decoders that the crates above may cite, each with its proof.
use Rattle.chdr_stream.specs.Laws.{EndsWhole, HasNone, HasOne, IsACall, IsAnyCut, IsSameCut, IsWholeOrFaulty, KeepsRest, NamesCut, NamesFault, PassTells, ShowsCaptures, ShowsFirstFault, ShowsLongest, ShowsOnly, ShowsPlaces, StaysAtFault}
use Rattle.chdr_stream.specs.Rest.{PassesBytes, ShowsAll, ShowsCut, ShowsFault, ShowsFed, ShowsGiven}
use Rattle.chdr_stream.proofs.CutLemmas as cuts
use Rattle.chdr_stream.proofs.FaultLemmas as faults
use Rattle.chdr_stream.proofs.RestLemmas as rests
use Rattle.chdr_stream.proofs.SameLemmas as sames

pub shows_captures : ShowsCaptures
shows_captures = faults.shows_captures

pub shows_only : ShowsOnly
shows_only = faults.shows_only

pub shows_first_fault : ShowsFirstFault
shows_first_fault = faults.shows_first_fault

pub shows_longest : ShowsLongest
shows_longest = faults.shows_longest

pub whole_or_faulty : IsWholeOrFaulty
whole_or_faulty = faults.whole_or_faulty

pub has_none : HasNone
has_none = faults.has_none

pub has_one : HasOne
has_one = faults.has_one

pub shows_places : ShowsPlaces
shows_places = faults.shows_places

pub next_calls : IsACall
next_calls = cuts.next_calls

pub pass_tells : PassTells
pass_tells = cuts.pass_tells

pub keeps_rest : KeepsRest
keeps_rest = cuts.keeps_rest

pub any_cut : IsAnyCut
any_cut = cuts.any_cut

pub same_cut : IsSameCut
same_cut = sames.same_cut

pub names_fault : NamesFault
names_fault = cuts.names_fault

pub names_cut : NamesCut
names_cut = cuts.names_cut

pub ends_whole : EndsWhole
ends_whole = cuts.ends_whole

pub stays_at_fault : StaysAtFault
stays_at_fault = cuts.stays_at_fault

pub shows_all : ShowsAll
shows_all = rests.shows_all

pub shows_fed : ShowsFed
shows_fed = rests.shows_fed

pub shows_given : ShowsGiven
shows_given = rests.shows_given

pub shows_fault : ShowsFault
shows_fault = rests.shows_fault

pub shows_cut : ShowsCut
shows_cut = rests.shows_cut

pub passes_bytes : PassesBytes
passes_bytes = rests.passes_bytes
