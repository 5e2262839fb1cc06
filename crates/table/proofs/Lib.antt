-- Laws that belong to no one function; crates above cite those marked `pub mod`.
pub mod Equality
pub mod Reading
pub mod Meanings
pub mod Fields
pub mod Stages
pub mod Stopping
pub mod Sizes
pub mod Chains
pub mod Parts
pub mod WellFormed
pub mod Encoding
pub mod Opened
pub mod Marks
pub mod Upgrading
pub mod Promised
pub mod Told
pub mod Searching
