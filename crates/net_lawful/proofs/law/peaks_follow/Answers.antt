use Rattle.net_lawful.proofs.law.peaks_follow.Goals as goal
use Rattle.net_lawful.proofs.Laws.{peaks_follow}

pub returns : goal.returns
returns c = peaks_follow
