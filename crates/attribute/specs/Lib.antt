pub mod Words
pub mod Reader
pub mod Writer
pub mod RoundTrip
pub mod Examples
