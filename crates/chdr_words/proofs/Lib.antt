pub mod FieldLemmas
pub mod WordLemmas
pub mod ControlLemmas
pub mod ControlWriting
pub mod ManagementLemmas
pub mod ManagementReading
pub mod PlainLemmas
pub mod Laws
