pub mod Putting
pub mod Digits
pub mod Parts
pub mod Picked
pub mod Rows
pub mod Clearing
