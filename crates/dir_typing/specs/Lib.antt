pub use Rattle.key_table.specs.Answers
pub use Rattle.euclid_ast.specs.Limits
pub mod Comparisons
pub mod Faults
pub mod Numbered
pub mod Selections
pub mod Typed
