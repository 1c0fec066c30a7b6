pub use Rattle.key_table.specs.Answers
pub use Rattle.key_table.specs.Integers
pub use Rattle.key_table.specs.Names
pub mod Cuts
pub mod Longest
pub mod Pieces
pub mod Signs
pub mod Tokens
