pub mod Pageable
