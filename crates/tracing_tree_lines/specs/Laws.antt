-- What a reader may conclude from the text of a run's drawing.
pub mod Ancestry
