-- The law, clause by clause.
use Rattle.endpoint_laws.proofs.law.a_kept_receiver_does_as_the_whole_one.Goals as goal
use Rattle.endpoint_laws.proofs.Laws.{kept_arrival, kept_arrives, kept_finds_room, kept_obeys, kept_reports, kept_status, kept_takes}

pub returns : goal.returns
returns c = record { arrives = kept_arrives; takes = kept_takes; obeys = kept_obeys; reports = kept_reports; arrival = kept_arrival; status = kept_status; room = kept_finds_room }
