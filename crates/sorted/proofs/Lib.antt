-- Laws that belong to no one function; crates above cite those marked `pub mod`.
pub mod Lists
pub mod Ascending
pub mod Holding
pub mod Between
pub mod Placing
pub mod Inserting
