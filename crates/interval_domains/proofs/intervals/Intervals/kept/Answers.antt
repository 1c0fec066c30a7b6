use Rattle.std.proofs.Common.{◌≡◌, ℤ, List, ◌&&◌, subst, ◌∙◌}
use Rattle.std.specs.Bool.{beq}
use Rattle.std.specs.List.{list_any}
use Rattle.key_table.specs.declared.slot.Datum.TheVariants.{Number}
use Rattle.key_table.specs.Atoms.{test_holds}
use Rattle.interval_domains.specs.declared.interval.Interval.{Interval}
use Rattle.interval_domains.specs.Intervals.{has_number, AreApart}
use Rattle.interval_domains.proofs.Steps.{ok_then}
use Rattle.interval_domains.proofs.IntervalLemmas.{kept_true, kept_false}
use Rattle.interval_domains.proofs.intervals.Intervals.kept.Goals as goal

pub returns-then-inside : goal.returns-then-inside
returns-then-inside c =
    let is : List Interval = c.args.self.now in
    let test = λ (x : ℤ). list_any (test_holds (Number x)) c.args.tests.now in
    let Apart : List Interval → Type 0 = λ is. AreApart is in
    let apart = subst Apart c.self.view_is c.self.invariant in
    let P : List Interval → Type 0 = λ found. (x : ℤ) → has_number found x ≡ (has_number is x && has_number c.in_ok-passing.passing x) in
    let Q : List Interval → Type 0 = λ found. (x : ℤ) → has_number found x ≡ (has_number is x && beq (test x) c.args.inside) in
    ok_then P Q _ c.intersection.ensures (λ found numbers x. numbers x ∙ kept_true is c.in_ok-passing.passing test c.args.inside x apart c.in_ok-passing.ensures c.if-inside.true)

pub returns : goal.returns
returns c =
    let is : List Interval = c.args.self.now in
    let test = λ (x : ℤ). list_any (test_holds (Number x)) c.args.tests.now in
    let Apart : List Interval → Type 0 = λ is. AreApart is in
    let apart = subst Apart c.self.view_is c.self.invariant in
    let P : List Interval → Type 0 = λ found. (x : ℤ) → has_number found x ≡ (has_number is x && has_number c.in_ok-complement.field-0 x) in
    let Q : List Interval → Type 0 = λ found. (x : ℤ) → has_number found x ≡ (has_number is x && beq (test x) c.args.inside) in
    ok_then P Q _ c.intersection-else-inside-2.ensures (λ found numbers x. numbers x ∙ kept_false is c.in_ok-complement.field-0 c.in_ok-passing.passing test c.args.inside x apart c.in_ok-passing.ensures c.in_ok-complement.ensures c.if-inside.false)
