use Rattle.pcap_input.proofs.RestLemmas.{shows_all, shows_fed, shows_given, shows_fault, shows_cut, drains_all, passes_bytes}
use Rattle.pcap_input.proofs.law.a_reader_shows_what_follows.Goals as goal

pub returns : goal.returns
returns c = record { all = shows_all; fed = shows_fed; given = shows_given; fault = shows_fault; cut = shows_cut; drains = drains_all; passes = passes_bytes }
