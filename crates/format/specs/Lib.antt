pub mod Line
pub mod Sheet
pub mod Step
pub mod Plan
pub mod Report
pub mod RoundTrip
pub mod Longest
pub mod Texts
