use Rattle.std.proofs.Common.{◌≡◌, ◌*◌, ◌++◌, replicate, string_bytes}
use Rattle.euclid_printer.proofs.statement.put_indent.Given as goal

abbrev pub invariant-levels : goal.invariant-levels
invariant-levels l = string_bytes l.out ≡ string_bytes l.fn.out ++ replicate (2 * l.counter) 32
