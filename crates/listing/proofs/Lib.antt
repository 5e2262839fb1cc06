-- Laws that belong to no one function; crates above cite those marked `pub mod`.
pub mod Counting
pub mod Whole
pub mod Minimals
pub mod Demanding
pub mod Promised
pub mod Shop
