pub mod Giving
pub mod OnPaper
pub mod Papers
pub mod Printed
