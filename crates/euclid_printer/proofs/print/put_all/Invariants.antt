use Rattle.std.proofs.Common.{◌≡◌, ◌++◌, drop, string_bytes}
use Rattle.std.specs.List.{flat_map}
use Rattle.euclid_printer.proofs.print.put_all.Given as goal

abbrev pub invariant-loop-item : goal.invariant-loop-item
invariant-loop-item g l = string_bytes l.out ++ flat_map g.T.Print.text (drop l.item-index l.items) ≡ string_bytes l.fn.out ++ flat_map g.T.Print.text l.items
