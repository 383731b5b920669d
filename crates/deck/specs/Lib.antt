pub mod Format
pub mod Rules
pub mod Passes
pub mod Verdicts
pub mod Lawfuls
pub mod Commands
pub mod Reading
pub mod Told
