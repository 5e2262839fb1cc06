-- Laws that belong to no one function; crates above cite those marked `pub mod`.
pub mod Each
pub mod Moves
pub mod Promised
pub mod Together
pub mod Unions
pub mod Written
