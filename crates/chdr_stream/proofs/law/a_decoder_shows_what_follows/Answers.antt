use Rattle.chdr_stream.proofs.Laws.{shows_all, shows_fed, shows_given, shows_fault, shows_cut, passes_bytes}
use Rattle.chdr_stream.proofs.law.a_decoder_shows_what_follows.Goals as goal

pub returns : goal.returns
returns c = record { all = shows_all; fed = shows_fed; given = shows_given; fault = shows_fault; cut = shows_cut; passes = passes_bytes }
