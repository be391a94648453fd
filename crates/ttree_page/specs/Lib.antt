pub mod Steps
pub mod Lines
pub mod Writing
pub mod Strings
pub mod Parsing
pub mod Runs
pub mod Reading
