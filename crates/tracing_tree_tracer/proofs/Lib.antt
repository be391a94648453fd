mod Closes
mod Made
mod Scopes
mod Worked
