pub mod Cases
pub mod Pages
pub mod ReadBack
pub mod inner
