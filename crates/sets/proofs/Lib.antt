-- Laws that belong to no one function; crates above cite those marked `pub mod`.
pub mod Tests
pub mod Members
pub mod Without
pub mod Filling
