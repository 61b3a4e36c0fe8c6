pub mod Answers
pub mod Cases
pub mod Demand
pub mod SheetPages
pub mod inner
