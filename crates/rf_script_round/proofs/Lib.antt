mod ActBack
mod BackLemmas
mod CommandBack
mod EntryBack
pub mod Laws
mod ListBack
mod ScriptBack
mod TextBack
