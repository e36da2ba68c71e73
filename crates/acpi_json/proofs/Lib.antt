mod Numbers
mod Structures
mod Strings
