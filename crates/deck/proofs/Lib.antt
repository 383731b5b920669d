pub mod Written
pub mod Fronts
pub mod Judges
pub mod Readings
