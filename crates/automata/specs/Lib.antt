pub mod Automata
pub mod Promised
pub mod Together
