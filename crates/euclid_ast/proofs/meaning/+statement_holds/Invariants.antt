use Rattle.std.proofs.Common.{◌≡◌, drop}
use Rattle.std.specs.List.{list_any}
use Rattle.euclid_ast.specs.Meaning.{statement_holds}
use Rattle.euclid_ast.proofs.meaning.+statement_holds.Given as goal

abbrev pub invariant-loop-inner : goal.invariant-loop-inner
invariant-loop-inner l = list_any (statement_holds l.table l.payment) l.inner-items ≡ list_any (statement_holds l.table l.payment) (drop l.inner-index l.inner-items)
