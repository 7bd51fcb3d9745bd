pub mod Computed
pub mod Longest
pub mod Reached
pub mod Reports
pub mod RoundTrip
