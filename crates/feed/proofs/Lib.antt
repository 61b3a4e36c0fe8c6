pub mod Checks
pub mod Feed
pub mod Pairs
pub mod Passing
pub mod Words
pub mod Written
