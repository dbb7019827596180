-- The laws of weights, with their proofs, for the proofs of other crates.
use Rattle.net_weights.specs.Journals.{JournalsEnd, LedWeightFalls, WeightFalls}
use Rattle.net_weights.proofs.Journals.{journals-end, led-weight_falls, weight-falls}

pub weight_falls : WeightFalls
weight_falls = weight-falls

pub led_weight_falls : LedWeightFalls
led_weight_falls = led-weight_falls

pub journals_end : JournalsEnd
journals_end = journals-end
