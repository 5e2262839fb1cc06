-- Laws that belong to no one function; crates above cite those marked `pub mod`.
pub mod Wanting
pub mod Candidates
pub mod Linking
pub mod Nodes
pub mod Choosing
