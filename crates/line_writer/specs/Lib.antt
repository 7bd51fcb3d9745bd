pub mod Positions
pub mod Inside
