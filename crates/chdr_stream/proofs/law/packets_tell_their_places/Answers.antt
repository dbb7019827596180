use Rattle.chdr_stream.proofs.Laws.{shows_places}
use Rattle.chdr_stream.proofs.law.packets_tell_their_places.Goals as goal

pub returns : goal.returns
returns c = shows_places
