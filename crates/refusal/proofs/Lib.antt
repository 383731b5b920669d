pub mod Writing
pub mod Sameness
