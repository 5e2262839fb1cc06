-- Laws that belong to no one function; crates above cite those marked `pub mod`.
pub mod Wanting
pub mod Meeting
pub mod LeastNode
pub mod FirstNode
pub mod FirstMet
pub mod Alike
pub mod Walking
pub mod Children
pub mod Later
pub mod Nodes
pub mod Beginning
