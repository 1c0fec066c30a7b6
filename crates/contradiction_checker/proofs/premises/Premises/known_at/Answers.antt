use Rattle.std.proofs.Common.{length, refl, sym, subst}
use Rattle.std.proofs.lemmas.Option.{slice_get_read}
use Rattle.contradiction_checker.specs.declared.finding.Known.{Known}
use Rattle.contradiction_checker.specs.Findings.{IsRight}
use Rattle.contradiction_checker.proofs.Findings.{known_right, nothing_right}
use Rattle.contradiction_checker.proofs.premises.Premises.known_at.Goals as goal

pub returns-in-Some : goal.returns-in-Some
returns-in-Some c =
    let p = c.args.self.now in
    let finding = c.in-Some.finding.now in
    let there = slice_get_read c.args.findings.now (length c.args.findings.now) c.args.place finding refl c.in-Some.ensures.lookup.3.0 c.in-Some.ensures.lookup.1 in
    let P : Known → Type 0 = λ k. IsRight p.table.now p.atoms.now p.trail.now c.args.atom.now k in
    subst P (sym c.known_in.ensures) (known_right p.table.now p.atoms.now p.trail.now c.args.atom.now finding (c.requires.of_it finding there))

pub returns-in-None : goal.returns-in-None
returns-in-None c =
    let p = c.args.self.now in
    let P : Known → Type 0 = λ k. IsRight p.table.now p.atoms.now p.trail.now c.args.atom.now k in
    subst P (sym c.nothing.ensures) (nothing_right p.table.now p.atoms.now p.trail.now c.args.atom.now)
