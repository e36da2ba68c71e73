mod Distances
mod Tables
