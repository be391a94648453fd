-- Rows as lines of JSON.
pub mod Json
pub mod JsonSteps
