pub mod Feed
pub mod inner
