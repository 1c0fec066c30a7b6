pub mod Escapes
pub mod InTurn
pub mod InTurnCounted
pub mod Lists
pub mod Numerals
pub mod Steps
pub mod Values
