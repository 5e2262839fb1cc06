-- Laws that belong to no one function; crates above cite those marked `pub mod`.
pub mod FirstShown
pub mod Ordering
pub mod FirstBefore
pub mod Settling
pub mod Firsts
pub mod Fitting
pub mod Listed
pub mod Passes
pub mod WritesFirst
pub mod Promised
