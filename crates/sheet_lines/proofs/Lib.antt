mod Naming
mod Adding
mod Tests
pub mod Steps
