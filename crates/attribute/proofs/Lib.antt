pub mod Words
pub mod Stores
pub mod Outcomes
pub mod ReadBack
pub mod RoundTrip
pub mod Examples
