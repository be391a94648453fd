-- Drawings that are read back.
pub mod RowText
pub mod Line
pub mod Texts
pub mod DrawRows
pub mod Readable
pub mod Paths
