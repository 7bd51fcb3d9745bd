pub mod SlotPlan
pub mod SlotReport
pub mod RoundTrip
pub mod Longest
pub mod Texts
