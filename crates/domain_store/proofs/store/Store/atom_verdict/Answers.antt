use Rattle.std.proofs.Common.{◌<◌, length, refl, sym, subst, arith}
use Rattle.domain_store.specs.Stores.{Seen}
use Rattle.domain_store.specs.Verdicts.{AtomHasVerdict}
use Rattle.domain_store.proofs.KeptLemmas.{fits_at, place_is, at_within, slot_is, domain_is, verdict_is, atom_has, read_at, some_at}
use Rattle.domain_store.proofs.store.Store.atom_verdict.Goals as goal

pub index-domain-requires : goal.index-domain-requires
index-domain-requires c =
    let P : Seen → Type 0 = λ s. c.args.atom < length s.problem.atoms in
    let here = subst P (sym c.self.view_is) c.requires in
    let ds = c.self.inside.domains.items in
    let there = some_at c.self.inside.problem.now.atoms c.args.atom here in
    let w = at_within ds _ there.0.slot (place_is _ ds _ _ _ c.self.invariant c.args.atom _ there.0 there.1 c.index.ensures) in
    omega (arith, w, c.self.inside.domains.ok.0)

pub verdict-requires-clause-fits : goal.verdict-requires-clause-fits
verdict-requires-clause-fits c =
    let P : Seen → Type 0 = λ s. c.args.atom < length s.problem.atoms in
    let here = subst P (sym c.self.view_is) c.requires in
    let atom = c.index-as_slice-atom.result in
    let there = read_at c.self.inside.problem.now.atoms c.as_slice.result.now c.args.atom atom here c.index-as_slice-atom.is c.as_slice.ensures in
    fits_at _ _ _ _ _ c.self.invariant c.args.atom atom there

pub verdict-requires-clause-own : goal.verdict-requires-clause-own
verdict-requires-clause-own c =
    let P : Seen → Type 0 = λ s. c.args.atom < length s.problem.atoms in
    let here = subst P (sym c.self.view_is) c.requires in
    let atom = c.index-as_slice-atom.result in
    let there = read_at c.self.inside.problem.now.atoms c.as_slice.result.now c.args.atom atom here c.index-as_slice-atom.is c.as_slice.ensures in
    let at = place_is _ c.self.inside.domains.items _ _ _ c.self.invariant c.args.atom _ atom there c.index.ensures in
    sym (slot_is _ c.self.inside.domains.items _ _ _ c.self.invariant _ atom.slot at c.index-domain.result.now c.index-domain.ensures)

pub verdict-requires-clause-filled : goal.verdict-requires-clause-filled
verdict-requires-clause-filled c =
    let P : Seen → Type 0 = λ s. c.args.atom < length s.problem.atoms in
    let here = subst P (sym c.self.view_is) c.requires in
    let atom = c.index-as_slice-atom.result in
    let there = read_at c.self.inside.problem.now.atoms c.as_slice.result.now c.args.atom atom here c.index-as_slice-atom.is c.as_slice.ensures in
    let at = place_is _ c.self.inside.domains.items _ _ _ c.self.invariant c.args.atom _ atom there c.index.ensures in
    (domain_is _ c.self.inside.domains.items _ _ _ c.self.invariant _ atom.slot at c.index-domain.result.now c.index-domain.ensures).filled

pub returns : goal.returns
returns c =
    let P : Seen → Type 0 = λ s. c.args.atom < length s.problem.atoms in
    let here = subst P (sym c.self.view_is) c.requires in
    let atom = c.index-as_slice-atom.result in
    let there = read_at c.self.inside.problem.now.atoms c.as_slice.result.now c.args.atom atom here c.index-as_slice-atom.is c.as_slice.ensures in
    let at = place_is _ c.self.inside.domains.items _ _ _ c.self.invariant c.args.atom _ atom there c.index.ensures in
    let R : Seen → Type 0 = λ s. AtomHasVerdict s c.args.atom c.verdict.result in
    subst R c.self.view_is (atom_has (record { table = c.self.inside.table.now; problem = c.self.inside.problem.now; assumptions = c.self.inside.assumed.items }) c.args.atom atom c.verdict.result there
    (verdict_is _ c.self.inside.domains.items _ _ _ c.self.invariant _ atom.slot at c.index-domain.result.now c.index-domain.ensures c.left_law.ensures.verdict atom refl c.verdict.result c.verdict.ensures))
