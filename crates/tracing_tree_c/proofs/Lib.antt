pub mod Entries
pub mod Fields
pub mod Makes
pub mod Raws
pub mod Words
