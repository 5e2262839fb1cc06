-- Laws that belong to no one function; crates above cite those marked `pub mod`.
pub mod Readings
pub mod Judging
pub mod DemandTwo
pub mod Promised
pub mod Judged
pub mod Shop
