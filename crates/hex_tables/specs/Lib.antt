pub mod Tables
pub mod ByTheTables
