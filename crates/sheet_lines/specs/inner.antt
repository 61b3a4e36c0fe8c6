pub mod Lines
pub mod State
