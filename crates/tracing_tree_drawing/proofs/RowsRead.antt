-- Rows that are read back: lines, rows and strings, and what the reader's code says of them.
pub mod Bytes
pub mod FirstRead
pub mod FirstDrawn
pub mod LaterRead
pub mod RowLines
pub mod LinesRead
pub mod LinesDrawn
pub mod CleanFrames
pub mod TextsRead
pub mod ReadableDrawn
pub mod ReadSteps
mod WorkedReads
pub mod Trims
pub mod BareLines
pub mod FarLines
pub mod ReadPlaces
pub mod Taken
pub mod ReadBack
pub mod Made
pub mod DrawnRows
pub mod AncestryLaws
