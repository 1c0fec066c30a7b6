use Rattle.std.proofs.Common.{◌≡◌, true, Some, ap, sym, ◌∙◌, subst}
use Rattle.key_table.specs.declared.atom.Atom.{Atom}
use Rattle.key_table.specs.contracts.atom.AtomPartialEq.TheImpl as by_atom
use Rattle.key_table.specs.contracts.atom.AtomEq.TheImpl.Laws as equal_atoms
use Rattle.constraint_graph.specs.Graphs.{atom_of, atom_of_gate}
use Rattle.constraint_graph.proofs.graph.is_test_of.Goals as goal

some_same : (a b : Atom) → Some a ≡ Some b → a ≡ b
some_same a b h = cc

pub returns-in-Test : goal.returns-in-Test
returns-in-Test c =
    let own : Atom = c.in-Test.own in
    let atom : Atom = c.args.atom.now in
    let there : atom_of c.args.node.now ≡ Some own = ap (λ g. atom_of_gate g) c.in-Test.is in
    let P : Atom → Type 0 = λ a. by_atom.eq-value.it own a ≡ true in (
      λ t. there ∙ ap (λ (a : Atom). Some a) (c.atom_law.ensures own atom (sym c.eq.ensures ∙ t)),
      λ is. c.eq.ensures ∙ subst P (some_same own atom (sym there ∙ is)) (equal_atoms.laws-law.refl own),
    )
