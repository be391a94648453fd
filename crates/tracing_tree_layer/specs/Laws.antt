-- What a reader may conclude from the rows of a run.
pub mod Reading
pub mod Ancestors
