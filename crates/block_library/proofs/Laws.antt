-- The laws of this crate, for proofs of other crates to cite.
pub use Rattle.block_library.proofs.CountLemmas.{few_are_given, few_are_given_in_all}
pub use Rattle.block_library.proofs.HistoryLemmas.{block_of-prefix, history_goes_on}
pub use Rattle.block_library.proofs.KeptLemmas.{kept_stays_fit}
pub use Rattle.block_library.proofs.LineLemmas.{lines_grow}
pub use Rattle.block_library.proofs.ProducerLemmas.{length-produced, get_or-produced, produced_is_by_place}
pub use Rattle.block_library.proofs.SizeLemmas.{within_is_small, within_is_of_all, plans_are_within}
pub use Rattle.block_library.proofs.WithinLemmas.{fed_bounds_given, all_fed_bound_given}
