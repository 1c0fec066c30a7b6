use Rattle.std.proofs.Common.{false, not, Option, length, slice_get, refl, sym, ◌∙◌, ap}
use Rattle.std.specs.Option.{option_map_or}
use Rattle.std.proofs.lemmas.Option.{slice_get_read, slice_get_past}
use Rattle.key_table.specs.declared.atom.Atom.{Atom}
use Rattle.contradiction_checker.specs.Assumed.{premises_of}
use Rattle.contradiction_checker.specs.Decisions.{excludes}
use Rattle.contradiction_checker.proofs.premises.Premises.is_refuted.Goals as goal

pub is_left_at-requires-clause-before : goal.is_left_at-requires-clause-before
is_left_at-requires-clause-before c = record {
  of_it = λ finding is. c.requires.found.at c.args.literal.atom c.in-Some.atom.now finding (slice_get_read c.args.atoms.now (length c.args.atoms.now) c.args.literal.atom c.in-Some.atom.now refl c.in-Some.ensures.lookup.3.0 c.in-Some.ensures.lookup.1) is;
}

pub returns-in-Some-clause-value : goal.returns-in-Some-clause-value
returns-in-Some-clause-value c =
    let p = c.args.self.now in
    let wanted = c.args.literal.want in
    let there = slice_get_read c.args.atoms.now (length c.args.atoms.now) c.args.literal.atom c.in-Some.atom.now refl c.in-Some.ensures.lookup.3.0 c.in-Some.ensures.lookup.1 in
    ap not c.is_left_at.ensures.value ∙ ap (λ (o : Option Atom). option_map_or (λ atom. excludes p.table.now (premises_of p) atom wanted) o false) (sym there)

pub returns-in-Some-clause-found : goal.returns-in-Some-clause-found
returns-in-Some-clause-found c =
    let there = slice_get_read c.args.atoms.now (length c.args.atoms.now) c.args.literal.atom c.in-Some.atom.now refl c.in-Some.ensures.lookup.3.0 c.in-Some.ensures.lookup.1 in
    c.is_left_at.ensures.found.for_all (slice_get c.args.atoms.now) there c.requires.found

pub returns-in-None-clause-value : goal.returns-in-None-clause-value
returns-in-None-clause-value c =
    let p = c.args.self.now in
    ap (λ (o : Option Atom). option_map_or (λ atom. excludes p.table.now (premises_of p) atom (c.args.literal.want)) o false) (sym (slice_get_past c.args.atoms.now c.args.literal.atom c.in-None.ensures.lookup.3))
