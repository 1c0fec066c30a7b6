pub use Rattle.key_table.specs.Answers
pub use Rattle.key_table.specs.Payments
pub mod Reading
pub mod WellMade
pub mod Written
