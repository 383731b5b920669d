pub mod Steps
pub mod Narrows
pub mod FingerTwins
