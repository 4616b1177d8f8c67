mod Escapes
mod Groups
mod Once
pub mod OneDocument
mod Pieces
mod SameEntries
mod Shapes
mod Spelled
mod SpelledDocument
mod SpelledEntries
mod TakenBack
mod Utf8
mod Values
