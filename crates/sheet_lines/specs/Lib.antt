pub mod Reading
pub mod inner
