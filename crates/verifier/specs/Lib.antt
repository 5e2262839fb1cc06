pub mod Kept
pub mod Verdict
pub mod DemandTwo
pub mod Promised
