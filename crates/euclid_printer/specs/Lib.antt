pub use Rattle.key_table.specs.Answers
pub use Rattle.euclid_ast.specs.Limits
pub use Rattle.euclid_grammar.specs.Texts
pub mod Expressible
pub mod Layout
pub mod Printing
pub mod Values
