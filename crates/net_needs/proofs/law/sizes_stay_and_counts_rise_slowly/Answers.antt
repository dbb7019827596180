use Rattle.net_needs.proofs.law.sizes_stay_and_counts_rise_slowly.Goals as goal
use Rattle.net_needs.proofs.Laws.{counts_rise, sizes_stay}

pub returns : goal.returns
returns c = record { sizes = sizes_stay; counts = counts_rise }
