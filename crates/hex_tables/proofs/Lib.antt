pub mod Entries
pub mod Lengths
pub mod Format
