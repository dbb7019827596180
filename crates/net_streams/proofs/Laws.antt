-- The laws of a network's streams, for other crates' proofs to cite.
pub use Rattle.net_streams.proofs.Showing.{unseen_shows}
pub use Rattle.net_streams.proofs.Sending.{enter_acts, report_acts}
pub use Rattle.net_streams.proofs.Coming.{commands_act, samples_act, statuses_act}
pub use Rattle.net_streams.proofs.Taking.{seen_acts, taking_acts}
pub use Rattle.net_streams.proofs.Losing.{commands_lost, samples_lost, statuses_lost}
pub use Rattle.net_streams.proofs.Ordering.{command_acts}
pub use Rattle.net_streams.proofs.Making.{making_acts}
