pub use Rattle.euclid_ast.specs.Meaning
pub use Rattle.vir_lowering.specs.Decisions
