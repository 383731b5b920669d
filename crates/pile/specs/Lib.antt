pub mod Piles
pub mod Lawfuls
