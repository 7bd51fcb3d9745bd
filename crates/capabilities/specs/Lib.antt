pub mod Sets
pub mod Header
