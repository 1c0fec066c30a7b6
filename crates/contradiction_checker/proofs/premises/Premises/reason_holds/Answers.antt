use Rattle.std.proofs.Common.{List, Bool, false, Option, length, slice_get, refl, sym, ◌∙◌, ap, subst}
use Rattle.std.specs.Option.{option_map_or}
use Rattle.std.proofs.lemmas.Option.{slice_get_read, slice_get_past}
use Rattle.key_table.specs.declared.atom.Atom.{Atom}
use Rattle.rule_problem.specs.declared.problem.Literal.{Literal}
use Rattle.contradiction_checker.specs.Assumed.{premises_of}
use Rattle.contradiction_checker.specs.Decisions.{is_void, want_refuted, bar_entailed, reason_holds}
use Rattle.contradiction_checker.specs.Findings.{AreFound}
use Rattle.contradiction_checker.proofs.premises.Premises.reason_holds.Goals as goal

pub is_want_refuted-requires-clause-found : goal.is_want_refuted-requires-clause-found
is_want_refuted-requires-clause-found c =
    let p = c.args.self.now in
    let P : List Atom → Type 0 = λ atoms. AreFound p.table.now p.atoms.now p.trail.now (slice_get atoms) c.args.notes.now.of_atoms.items in
    subst P (sym c.as_slice-atoms.ensures) c.requires.of_atoms

pub is_bar_entailed-requires-clause-found : goal.is_bar_entailed-requires-clause-found
is_bar_entailed-requires-clause-found c =
    let p = c.args.self.now in
    let P : List Atom → Type 0 = λ atoms. AreFound p.table.now p.atoms.now p.trail.now (slice_get atoms) c.args.notes.now.of_atoms.items in
    subst P (sym c.as_slice-atoms.ensures) c.requires.of_atoms

pub returns-in-Some-clause-value : goal.returns-in-Some-clause-value
returns-in-Some-clause-value c =
    let p = c.args.self.now in
    c.is_void.ensures.value
    ∙ ap (λ (o : Option Atom). option_map_or (is_void p.table.now (premises_of p)) o false) (sym (slice_get_read p.atoms.now (length p.atoms.now) c.in-Void.x c.in-Some.atom.now refl c.in-Some.ensures.lookup.3.0 c.in-Some.ensures.lookup.1))
    ∙ ap (reason_holds p.table.now c.args.problem.now p.atoms.now (premises_of p)) (sym c.in-Void.is)

pub returns-in-None-clause-value : goal.returns-in-None-clause-value
returns-in-None-clause-value c =
    let p = c.args.self.now in
    ap (λ (o : Option Atom). option_map_or (is_void p.table.now (premises_of p)) o false) (sym (slice_get_past p.atoms.now c.in-Void.x c.in-None.ensures.lookup.3))
    ∙ ap (reason_holds p.table.now c.args.problem.now p.atoms.now (premises_of p)) (sym c.in-Void.is)

pub returns-in-Some-get-clause-value : goal.returns-in-Some-get-clause-value
returns-in-Some-get-clause-value c =
    let p = c.args.self.now in
    let problem = c.args.problem.now in
    let refuted : List Atom → List (List Literal) → Bool = want_refuted p.table.now (premises_of p) in
    c.is_want_refuted.ensures.value
    ∙ ap (λ (atoms : List Atom). refuted atoms c.as_slice-in-Some-get.result.now) c.as_slice-atoms.ensures
    ∙ ap (refuted problem.atoms) c.as_slice-in-Some-get.ensures
    ∙ ap (λ (o : Option (List (List Literal))). option_map_or (refuted problem.atoms) o false) (sym (slice_get_read c.as_slice.result.now (length c.as_slice.result.now) c.in-Want.w c.in-Some-get.paths.now refl c.in-Some-get.ensures.lookup.3.0 c.in-Some-get.ensures.lookup.1) ∙ ap (λ (wants : List (List (List Literal))). slice_get wants c.in-Want.w) c.as_slice.ensures)
    ∙ ap (reason_holds p.table.now problem p.atoms.now (premises_of p)) (sym c.in-Want.is)

pub returns-in-Some-get-clause-of_atoms : goal.returns-in-Some-get-clause-of_atoms
returns-in-Some-get-clause-of_atoms c =
    let p = c.args.self.now in
    let P : List Atom → Type 0 = λ atoms. AreFound p.table.now p.atoms.now p.trail.now (slice_get atoms) c.is_want_refuted.new.findings.items in
    subst P c.as_slice-atoms.ensures c.is_want_refuted.ensures.found

pub returns-in-None-get-clause-value : goal.returns-in-None-get-clause-value
returns-in-None-get-clause-value c =
    let p = c.args.self.now in
    let problem = c.args.problem.now in
    ap (λ (o : Option (List (List Literal))). option_map_or (want_refuted p.table.now (premises_of p) problem.atoms) o false) (sym (slice_get_past c.as_slice.result.now c.in-Want.w c.in-None-get.ensures.lookup.3) ∙ ap (λ (wants : List (List (List Literal))). slice_get wants c.in-Want.w) c.as_slice.ensures)
    ∙ ap (reason_holds p.table.now problem p.atoms.now (premises_of p)) (sym c.in-Want.is)

pub returns-in-Some-get-2-clause-value : goal.returns-in-Some-get-2-clause-value
returns-in-Some-get-2-clause-value c =
    let p = c.args.self.now in
    let problem = c.args.problem.now in
    let entailed : List Atom → List Literal → Bool = bar_entailed p.table.now (premises_of p) in
    c.is_bar_entailed.ensures.value
    ∙ ap (λ (atoms : List Atom). entailed atoms c.as_slice-in-Some-get-2.result.now) c.as_slice-atoms.ensures
    ∙ ap (entailed problem.atoms) c.as_slice-in-Some-get-2.ensures
    ∙ ap (λ (o : Option (List Literal)). option_map_or (entailed problem.atoms) o false) (sym (slice_get_read c.as_slice-in-Bar.result.now (length c.as_slice-in-Bar.result.now) c.in-Bar.b c.in-Some-get-2.bar.now refl c.in-Some-get-2.ensures.lookup.3.0 c.in-Some-get-2.ensures.lookup.1) ∙ ap (λ (bars : List (List Literal)). slice_get bars c.in-Bar.b) c.as_slice-in-Bar.ensures)
    ∙ ap (reason_holds p.table.now problem p.atoms.now (premises_of p)) (sym c.in-Bar.is)

pub returns-in-Some-get-2-clause-of_atoms : goal.returns-in-Some-get-2-clause-of_atoms
returns-in-Some-get-2-clause-of_atoms c =
    let p = c.args.self.now in
    let P : List Atom → Type 0 = λ atoms. AreFound p.table.now p.atoms.now p.trail.now (slice_get atoms) c.is_bar_entailed.new.findings.items in
    subst P c.as_slice-atoms.ensures c.is_bar_entailed.ensures.found

pub returns-in-None-get-2-clause-value : goal.returns-in-None-get-2-clause-value
returns-in-None-get-2-clause-value c =
    let p = c.args.self.now in
    let problem = c.args.problem.now in
    ap (λ (o : Option (List Literal)). option_map_or (bar_entailed p.table.now (premises_of p) problem.atoms) o false) (sym (slice_get_past c.as_slice-in-Bar.result.now c.in-Bar.b c.in-None-get-2.ensures.lookup.3) ∙ ap (λ (bars : List (List Literal)). slice_get bars c.in-Bar.b) c.as_slice-in-Bar.ensures)
    ∙ ap (reason_holds p.table.now problem p.atoms.now (premises_of p)) (sym c.in-Bar.is)
