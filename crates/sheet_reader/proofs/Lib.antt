mod Lines
mod Grouping
mod Sizes
pub mod Words
