pub mod Keys
pub mod LineLaws
pub mod Pairs
pub mod Answers
pub mod Attributes
