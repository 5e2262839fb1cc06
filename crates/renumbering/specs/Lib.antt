pub mod Lists
pub mod Kept
pub mod Promised
