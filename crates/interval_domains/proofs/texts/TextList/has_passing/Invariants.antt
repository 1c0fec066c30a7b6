use Rattle.std.proofs.Common.{◌≡◌, ℕ, List, take, false, ◌&&◌}
use Rattle.std.specs.List.{list_any}
use Rattle.key_table.specs.declared.slot.Datum.TheVariants as datum
use Rattle.key_table.specs.Atoms.{test_holds}
use Rattle.interval_domains.specs.TextLists.{has_text}
use Rattle.interval_domains.proofs.texts.TextList.has_passing.Given as goal

abbrev pub invariant-loop-test : goal.invariant-loop-test
invariant-loop-test l = (t : List ℕ) → (has_text l.self t && list_any (test_holds (datum.Text t)) (take l.test-index l.tests)) ≡ false
