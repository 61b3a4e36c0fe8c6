pub mod Builder
pub mod Checks
pub mod Embeddings
pub mod Encoding
