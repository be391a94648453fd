pub mod Format
pub mod Rows
