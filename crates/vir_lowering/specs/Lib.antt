pub use Rattle.key_table.specs.Options
pub use Rattle.dir_typing.specs.Typed
pub mod Atoms
pub mod Decisions
pub mod Fits
pub mod Grouped
pub mod Groups
pub mod Valued
