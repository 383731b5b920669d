pub mod Trips
pub mod Pieces
