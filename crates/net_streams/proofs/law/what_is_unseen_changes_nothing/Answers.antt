use Rattle.net_streams.proofs.Showing.{unseen_shows}
use Rattle.net_streams.proofs.law.what_is_unseen_changes_nothing.Goals as goal

pub returns : goal.returns
returns c = unseen_shows
