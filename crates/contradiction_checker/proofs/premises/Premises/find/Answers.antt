use Rattle.std.proofs.Common.{List, sym, refl, subst}
use Rattle.contradiction_checker.specs.declared.finding.Finding.{Finding}
use Rattle.contradiction_checker.specs.Findings.{AreFound, IsFoundAt}
use Rattle.contradiction_checker.proofs.Findings.{found_set, found_there, found_more}
use Rattle.contradiction_checker.proofs.premises.Premises.find.Goals as goal

pub returns-clause-found : goal.returns-clause-found
returns-clause-found c =
    let p = c.args.self.now in
    let finding : Finding = record { chain = c.chain_of.result; time = p.trail.now.time; known = c.with.result } in
    let found = found_more p.table.now p.atoms.now p.trail.now c.args.atom.now c.args.known finding c.args.truth c.is_left-left.result c.requires.known c.is_left-left.ensures.value c.chain_of.ensures refl c.with.ensures in
    record {
      for_all = λ asked asks old.
          let Q : List Finding → Type 0 = λ l. AreFound p.table.now p.atoms.now p.trail.now asked l in
          subst Q (sym c.set_at.ensures.items) (found_set p.table.now p.atoms.now p.trail.now asked c.args.findings.now.items c.args.place c.args.atom.now finding asks found old);
    }

pub returns-clause-found_at : goal.returns-clause-found_at
returns-clause-found_at c =
    let p = c.args.self.now in
    let finding : Finding = record { chain = c.chain_of.result; time = p.trail.now.time; known = c.with.result } in
    let found = found_more p.table.now p.atoms.now p.trail.now c.args.atom.now c.args.known finding c.args.truth c.is_left-left.result c.requires.known c.is_left-left.ensures.value c.chain_of.ensures refl c.with.ensures in
    let Q : List Finding → Type 0 = λ l. IsFoundAt p.table.now p.atoms.now p.trail.now c.args.atom.now c.args.place l in
    subst Q (sym c.set_at.ensures.items) (found_there p.table.now p.atoms.now p.trail.now c.args.findings.now.items c.args.place c.args.atom.now finding found c.requires.before)
