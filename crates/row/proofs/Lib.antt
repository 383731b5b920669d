pub mod Rails
pub mod Fits
pub mod Steps
