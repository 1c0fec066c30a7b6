use Rattle.std.proofs.Common.{ℤ, Bool, ◌&&◌, sym, subst}
use Rattle.std.proofs.lemmas.Int.{to_z-of_z}
use Rattle.key_table.specs.Atoms.{relates}
use Rattle.interval_domains.specs.Intervals.{has_number}
use Rattle.interval_domains.specs.Finding.{Tells}
use Rattle.interval_domains.proofs.Hulls.{ends_tell}
use Rattle.interval_domains.proofs.coverage.any_relates.Goals as goal

pub returns-in_default : goal.returns-in_default
returns-in_default c =
    let has = λ (x : ℤ). has_number c.args.list.now x in
    let P : Bool → Type 0 = λ b. Tells (λ x. has x && relates c.args.op x c.args.number) b in
    let fits = c.ranges.number in
    let is = simp to_z-of_z at c.end_relates.ensures in
    subst P (sym is) (ends_tell has c.in-Some.hull c.args.op c.args.number c.in-Some.ensures c.in_default.not-Equal)
