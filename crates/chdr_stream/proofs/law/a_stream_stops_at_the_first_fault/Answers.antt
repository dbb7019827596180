use Rattle.chdr_stream.proofs.Laws.{names_fault, names_cut, ends_whole, stays_at_fault}
use Rattle.chdr_stream.proofs.law.a_stream_stops_at_the_first_fault.Goals as goal

pub returns : goal.returns
returns c = record { bad = names_fault; cut = names_cut; whole = ends_whole; stays = stays_at_fault }
