pub mod Apart
pub mod Pieces
pub mod ReadsBack
pub mod Spelled
pub mod Statements
pub mod Texts
pub mod Trees
pub mod Written
