-- The laws of what lasts of a network's streams, for other crates' proofs to cite.
pub use Rattle.net_flows.proofs.Closing.{closed_stays, drained_stays, further_is_finished}
pub use Rattle.net_flows.proofs.Staying.{events_go_on, events_keep_ends, steady_stays, unseen_flows, unseen_goes_on}
pub use Rattle.net_flows.proofs.Beginning.{begun_is_steady, moves_keep_steady, steady_is_ready}
