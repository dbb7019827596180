-- The laws of both ends, for other crates' proofs to cite.
pub use Rattle.endpoint_laws.proofs.KeptEnds.{kept_arrival, kept_arrives, kept_commands, kept_finds_room, kept_hears, kept_numbers, kept_obeys, kept_orders, kept_reports, kept_sends, kept_status, kept_takes}
pub use Rattle.endpoint_laws.proofs.CallLemmas.{any_calls_receive, any_calls_send}
pub use Rattle.endpoint_laws.proofs.Spellings.{command_means, spelled_is_heard, status_spells}
pub use Rattle.endpoint_laws.proofs.Conditions.{credit_is_tested, order_is_tested, room_is_tested, stuck_is_tested}
