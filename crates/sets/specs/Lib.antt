pub mod Logic
pub mod Sets
