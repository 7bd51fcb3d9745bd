pub mod Membership
pub mod Inclusion
pub mod Masks
pub mod Solve
mod Examples
