-- Laws that belong to no one function; crates above cite those marked `pub mod`.
pub mod Leaving
pub mod Owed
