pub mod Securebits
pub mod Validity
