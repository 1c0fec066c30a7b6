pub use Rattle.key_table.specs.Atoms
pub use Rattle.key_table.specs.Integers
pub use Rattle.key_table.specs.Tables
pub use Rattle.key_table.specs.Slots
pub use Rattle.key_table.specs.Payments
pub mod Comparisons
pub mod Limits
pub mod Meaning
