pub mod Plain
pub mod Columns
pub mod Lines
pub mod Writing
