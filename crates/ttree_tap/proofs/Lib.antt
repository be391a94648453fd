mod Accounts
mod Fronts
mod Marked
mod Numbers
mod Places
mod ShownResults
mod ShownWorked
mod Worked
mod Unescaped
pub mod Failing
pub mod ShownLines
