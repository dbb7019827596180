use Rattle.fabric_events.proofs.BegunLaws.{begun_is_now, built_is_now}
use Rattle.fabric_events.proofs.law.nets_begin_as_the_machine.Goals as goal

pub returns : goal.returns
returns c = record { built = built_is_now; begun = begun_is_now }
