pub use Rattle.key_table.specs.Answers
pub mod Graphs
pub mod Growth
pub mod Laws
pub mod Logics
pub mod TwoValues
pub mod Values
