pub mod Texts
pub mod Totals
