mod Nestings
