use Rattle.net_rows.proofs.law.losses_end_or_resynchronise_a_stream.Goals as goal
use Rattle.net_rows.proofs.Laws.{losses}

pub returns : goal.returns
returns c = losses
