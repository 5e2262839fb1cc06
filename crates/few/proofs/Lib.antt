-- Laws that crates above cite.
pub mod Listing
