pub mod Folds
pub mod Untold
pub mod Lawfuls
pub mod Laws
