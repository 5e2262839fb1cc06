pub mod Printed
pub mod Put
