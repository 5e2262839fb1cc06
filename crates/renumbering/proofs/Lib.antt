-- Laws of renumbered sets and lists.
pub mod Keeping
pub mod Alike
mod Lists
pub mod Promised
