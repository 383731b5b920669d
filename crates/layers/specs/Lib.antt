pub mod Kept
pub mod Lawfuls
