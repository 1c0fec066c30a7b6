use Rattle.std.proofs.Common.{◌≡◌, ◌++◌, drop, string_bytes}
use Rattle.euclid_printer.specs.Printing.{behind_text}
use Rattle.euclid_printer.proofs.print.put_behind.Given as goal

abbrev pub invariant-loop-item : goal.invariant-loop-item
invariant-loop-item g l = string_bytes l.out ++ behind_text l.separator g.T.Print.text (drop l.item-index l.items) ≡ string_bytes l.fn.out ++ behind_text l.separator g.T.Print.text l.items
