-- Laws that belong to no one function; crates above cite those marked `pub mod`.
pub mod Reading
pub mod Places
pub mod Persons
pub mod Branching
pub mod Stepping
pub mod ByKind
