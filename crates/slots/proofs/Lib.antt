pub mod Free
pub mod Turns
