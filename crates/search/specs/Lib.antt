pub mod Asking
pub mod Search
pub mod Once
pub mod Failing
pub mod Grounds
pub mod Promised
