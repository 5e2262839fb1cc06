pub mod Meaning
pub mod Agrees
pub mod Records
pub mod Opened
pub mod Promised
