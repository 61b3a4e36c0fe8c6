pub mod Sheet
pub mod inner
