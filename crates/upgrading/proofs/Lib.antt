pub mod Upgrading
pub mod Verdicts
pub mod Unmarked
