mod Numerals
mod Parses
mod FirstWords
mod AtomTexts
mod AskedOnce
