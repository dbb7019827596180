-- The law, clause by clause.
use Rattle.stream_laws.proofs.law.what_is_kept_finds_room.Goals as goal
use Rattle.stream_laws.proofs.Laws.{held_within, room_ahead}

pub returns : goal.returns
returns g c = record { law = room_ahead; held = held_within }
