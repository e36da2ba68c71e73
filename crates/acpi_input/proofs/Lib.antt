mod Readers
mod Words
