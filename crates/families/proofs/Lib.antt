-- Laws that belong to no one function; crates above cite those marked `pub mod`.
pub mod Lifting
pub mod Words
pub mod Pairs
pub mod Raising
pub mod Stepping
pub mod Leaving
pub mod Covering
