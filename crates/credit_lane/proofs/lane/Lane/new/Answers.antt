use Rattle.credit_lane.proofs.Seats.{starts}
use Rattle.credit_lane.proofs.lane.Lane.new.Goals as goal

pub vacant-requires : goal.vacant-requires
vacant-requires c = starts c.args.plan c.args.room c.requires.0
