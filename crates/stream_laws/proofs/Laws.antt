-- The laws of a stream, for other crates' proofs to cite.
pub use Rattle.stream_laws.proofs.Bounds.{held_within, known_and_outstanding, only_enters_raise, takes_of_buffered}
pub use Rattle.stream_laws.proofs.Consequences.{broken_by_loss, cut_in_order, epochwise, few_epochs, goes_on, holds_run, joins, numbers_go_on, numbers_tell, reads_back, reports_gap, room_ahead, stops_at_loss, taken_of_given, tells_totals, within_capacity}
pub use Rattle.stream_laws.proofs.Ending.{ends_well, gives_all, quiet_at_rest, stays_drained}
pub use Rattle.stream_laws.proofs.Falling.{is_low}
pub use Rattle.stream_laws.proofs.FallingHear.{lowers, stays_low}
pub use Rattle.stream_laws.proofs.Runs.{order_is_tested, quiet_is_tested, sends_what_was_made, stuck_is_tested}
pub use Rattle.stream_laws.proofs.Worked.{halted_run, near_the_end}
