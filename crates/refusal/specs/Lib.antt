pub mod Refusals
pub mod Written
pub mod Lines
pub mod Sameness
