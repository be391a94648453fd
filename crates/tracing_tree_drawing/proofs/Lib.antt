pub mod Characters
pub mod PartsLaws
pub mod FrameTexts
pub mod LineLaws
pub mod Spaces
pub mod RowsRead
