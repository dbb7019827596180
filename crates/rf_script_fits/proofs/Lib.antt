mod ActFits
mod BlockFits
mod CommandFits
mod EndFits
mod EntryFits
mod Gives
pub mod Laws
mod ScriptFits
mod TextFits
mod ValueFits
