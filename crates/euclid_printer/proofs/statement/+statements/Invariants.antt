use Rattle.std.proofs.Common.{◌≡◌, ◌++◌, drop, string_bytes}
use Rattle.euclid_printer.proofs.Texts.{statements_text}
use Rattle.euclid_printer.proofs.statement.+statements.Given as goal

abbrev pub invariant-put_statements-loop-statement : goal.invariant-put_statements-loop-statement
invariant-put_statements-loop-statement l = string_bytes l.out ++ statements_text l.level (drop l.statement-index l.statements) ≡ string_bytes l.fn.out ++ statements_text l.level l.statements
