pub mod Builder
pub mod Drawing
pub mod Embeddings
pub mod inner
