mod Beside
mod Hashed
mod Listed
mod OnePart
mod Plain
mod Whole
