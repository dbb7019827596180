use Rattle.net_lawful.proofs.law.networks_begin_lawful.Goals as goal
use Rattle.net_lawful.proofs.Laws.{begun_is_lawful, built_is_lawful}

pub returns : goal.returns
returns c = record { built = built_is_lawful; begun = begun_is_lawful }
