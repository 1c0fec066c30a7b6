-- The atoms of the test nodes from a number on.
use Rattle.std.proofs.Common.{◌≡◌, ℕ, zero, suc, ◌+◌, List, [], ◌∷◌, drop, Bool, Option, Some, slice_get, option_map, ap, subst, sym, add-one}
use Rattle.std.specs.List.{list_all, cons_option}
use Rattle.key_table.specs.declared.atom.Atom.{Atom}
use Rattle.constraint_graph.specs.declared.node.Node.{Node}
use Rattle.constraint_graph.specs.Graphs.{atom_of, atoms_of}

some_same : {X : Type 0} (x y : X) → Some x ≡ Some y → x ≡ y
some_same x y h = cc

here : (p : Atom → Bool) (nodes : List Node) (i : ℕ) (o : Option Atom) → option_map atom_of (slice_get nodes i) ≡ Some o → list_all p (atoms_of (drop i nodes)) ≡ list_all p (cons_option o (atoms_of (drop (suc i) nodes)))
here p [] i o h = cc
here p (n ∷ nodes) zero o h = ap (λ (x : Option Atom). list_all p (cons_option x (atoms_of nodes))) (some_same (atom_of n) o h)
here p (n ∷ nodes) (suc i) o h = here p nodes i o h

-- the atom of a node, if it is a test node, and those of the nodes after it
pub atoms_from : (p : Atom → Bool) (nodes : List Node) (i : ℕ) (o : Option Atom) → option_map atom_of (slice_get nodes i) ≡ Some o → list_all p (atoms_of (drop i nodes)) ≡ list_all p (cons_option o (atoms_of (drop (i + 1) nodes)))
atoms_from p nodes i o h = subst (λ (n : ℕ). list_all p (atoms_of (drop i nodes)) ≡ list_all p (cons_option o (atoms_of (drop n nodes)))) (sym (add-one i)) (here p nodes i o h)
