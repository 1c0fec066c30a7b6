use Rattle.std.proofs.Common.{ℤ, List, not, ◌&&◌, subst}
use Rattle.std.specs.List.{list_any}
use Rattle.key_table.specs.declared.slot.Datum.TheVariants.{Number}
use Rattle.key_table.specs.Atoms.{test_holds}
use Rattle.interval_domains.specs.declared.interval.Interval.{Interval}
use Rattle.interval_domains.specs.Intervals.{has_number}
use Rattle.interval_domains.specs.Finding.{Tells}
use Rattle.interval_domains.proofs.intervals.Intervals.has_failing.Goals as goal

pub returns : goal.returns
returns c =
    let test = λ (x : ℤ). not (list_any (test_holds (Number x)) c.args.tests.now) in
    let P : List Interval → Type 0 = λ is. Tells (λ x. has_number is x && test x) c.any_fails.result in
    subst P c.self.view_is (subst P c.deref.ensures.value c.any_fails.ensures)
