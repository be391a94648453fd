pub mod PlainLines
pub mod WorkedLines
pub mod Taken
pub mod Fitted
pub mod Written
pub mod Printable
