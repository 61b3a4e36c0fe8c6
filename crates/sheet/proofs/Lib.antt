pub mod Longest
pub mod NodeNames
pub mod Picks
pub mod Printing
pub mod Sheets
pub mod Starred
