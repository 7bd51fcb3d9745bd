pub mod Groups
pub mod Format
pub mod Whole
