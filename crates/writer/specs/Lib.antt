pub mod Writing
pub mod RoundTrips
