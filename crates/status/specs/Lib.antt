pub mod Lines
pub mod Reading
pub mod Comparing
pub mod RoundTrip
pub mod FirstFault
pub mod Listed
pub mod Longest
pub mod Texts
