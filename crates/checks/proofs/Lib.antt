-- Laws that belong to no one function.
pub mod Told
pub mod Tables
pub mod Queries
