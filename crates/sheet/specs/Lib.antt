pub mod Cases
pub mod SheetQuery
pub mod Starred
pub mod inner
