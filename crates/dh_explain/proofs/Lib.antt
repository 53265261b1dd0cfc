mod Numerals
mod Unexplained
