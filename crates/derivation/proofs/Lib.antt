-- Laws that belong to no one function; crates above cite those marked `pub mod`.
pub mod Depths
pub mod Usable
pub mod Asking
pub mod Applying
pub mod Ruling
pub mod Using
pub mod Complying
pub mod Bounding
pub mod Running
pub mod Promised
