-- Laws that belong to no one function; crates above cite those marked `pub mod`.
pub mod Least
pub mod Meeting
pub mod Lines
pub mod Single
pub mod Listing
pub mod Judging
