pub mod Laws
pub mod NodeLemmas
pub mod PortLemmas
pub mod ShapeLaws
pub mod WiresLemmas
