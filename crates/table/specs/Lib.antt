pub mod Tables
pub mod Lawfuls
