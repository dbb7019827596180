-- The laws of pcap files and readers that the crates above may cite, each with its proof.
use Rattle.pcap_input.specs.Calls.{IsSameCut, KeepsShown}
use Rattle.pcap_input.specs.Rest.{DrainsAll, PassesBytes, ShowsAll, ShowsCut, ShowsFault, ShowsFed, ShowsFiles, ShowsGiven}
use Rattle.pcap_input.proofs.CutLemmas as cuts
use Rattle.pcap_input.proofs.FileLemmas as files
use Rattle.pcap_input.proofs.RestLemmas as rests

pub shows_files : ShowsFiles
shows_files = files.shows_files

pub shows_all : ShowsAll
shows_all = rests.shows_all

pub shows_fed : ShowsFed
shows_fed = rests.shows_fed

pub shows_given : ShowsGiven
shows_given = rests.shows_given

pub shows_fault : ShowsFault
shows_fault = rests.shows_fault

pub shows_cut : ShowsCut
shows_cut = rests.shows_cut

pub drains_all : DrainsAll
drains_all = rests.drains_all

pub passes_bytes : PassesBytes
passes_bytes = rests.passes_bytes

pub keeps_shown : KeepsShown
keeps_shown = cuts.keeps_shown

pub same_cut : IsSameCut
same_cut = cuts.same_cut
