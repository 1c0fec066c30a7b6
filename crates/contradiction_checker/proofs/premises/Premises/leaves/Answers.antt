use Rattle.std.proofs.Common.{◌∙◌, sym}
use Rattle.contradiction_checker.proofs.Assumed.{leaves_by_number}
use Rattle.contradiction_checker.proofs.premises.Premises.leaves.Goals as goal

pub returns-in-Some : goal.returns-in-Some
returns-in-Some c =
    let p = c.args.self.now in
    c.has_option.ensures ∙ leaves_by_number p.table.now p.atoms.now p.trail.now.assumed.items c.args.mine.now c.args.atom.now c.args.truth c.in-Some.values c.requires (sym c.in-Some.is ∙ c.of.ensures)
