-- Laws that belong to no one function; crates above cite those marked `pub mod`.
pub mod Rows
pub mod Reaching
