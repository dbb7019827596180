pub mod CommandLines
pub mod Lines
pub mod Names
pub mod Page
pub mod RefusalTexts
