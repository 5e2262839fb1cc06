-- Laws that belong to no one function; crates above cite those marked `pub mod`.
pub mod Within
pub mod Naming
pub mod Pairs
pub mod Sharing
pub mod Owing
pub mod Placing
pub mod Exact
pub mod Failing
pub mod Trying
pub mod Judging
pub mod Leaving
pub mod Below
pub mod Answering
pub mod Starting
pub mod Deriving
pub mod Searching
pub mod Promised
