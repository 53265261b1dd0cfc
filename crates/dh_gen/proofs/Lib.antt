mod Numerals
mod Told
