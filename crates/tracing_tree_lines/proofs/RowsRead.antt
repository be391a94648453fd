-- Ancestors that are found in the text of a run's drawing, and rows as lines of JSON.
pub mod PathsFound
pub mod JsonTexts
pub mod JsonRuns
pub mod JsonLines
