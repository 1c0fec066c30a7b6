use Rattle.std.proofs.Common.{◌≡◌, drop}
use Rattle.std.specs.List.{list_all}
use Rattle.euclid_printer.specs.Expressible.{says_statement}
use Rattle.euclid_printer.proofs.expressible.+says_statement.Given as goal

abbrev pub invariant-loop-inner : goal.invariant-loop-inner
invariant-loop-inner l = list_all says_statement l.inner-items ≡ list_all says_statement (drop l.inner-index l.inner-items)
