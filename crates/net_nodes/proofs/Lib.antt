pub mod BudgetLemmas
pub mod EntryLemmas
pub mod FirstPlaceLemmas
pub mod HopLemmas
pub mod Laws
pub mod SiteLemmas
pub mod TableLemmas
