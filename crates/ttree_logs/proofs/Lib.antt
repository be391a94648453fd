mod GroupLists
mod Inner
mod Numbers
mod Worked
