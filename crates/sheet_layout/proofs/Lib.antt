pub mod DigitsBack
pub mod Layouts
pub mod Lengths
pub mod Paging
pub mod ReadBack
pub mod Writing
