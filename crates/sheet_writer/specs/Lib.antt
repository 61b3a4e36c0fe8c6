pub mod Parts
pub mod Picked
pub mod inner
