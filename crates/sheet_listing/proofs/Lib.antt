pub mod Lines
pub mod Ending
