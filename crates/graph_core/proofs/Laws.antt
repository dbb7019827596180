-- The laws of this crate, and the facts about its definitions, for proofs of other crates to cite.
pub use Rattle.graph_core.proofs.Derived.{closed_is_unique, included, none_in, one_value, pushed_pair}
pub use Rattle.graph_core.proofs.Graphs.{few_edges}
pub use Rattle.graph_core.proofs.Places.{two_ports}
pub use Rattle.graph_core.proofs.Ranks.{chains_are_short}
pub use Rattle.graph_core.proofs.Settled.{edges_agree, edges_show, blocks_agree, items_are_set, settling_is_unique}
