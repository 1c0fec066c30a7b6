-- Two logics, and a relation between their values that the ways of joining them keep: a node's values are so related where those of the atoms are.
use Rattle.std.proofs.Common.{ℕ, zero, suc, List, [], ◌∷◌, ◌++◌, get_or, fold}
use Rattle.std.specs.List.{AllZip, AllByRecursion, Contains, cons_option}
use Rattle.std.proofs.lemmas.Slice.Zip.{all_zipped_more}
use Rattle.key_table.specs.declared.atom.Atom.{Atom}
use Rattle.constraint_graph.specs.declared.node.Relation.{Relation}
use Rattle.constraint_graph.specs.declared.node.Relation.TheVariants.{Positive, Negative}
use Rattle.constraint_graph.specs.declared.node.Edge.{Edge}
use Rattle.constraint_graph.specs.declared.node.Gate.{Gate}
use Rattle.constraint_graph.specs.declared.node.Gate.TheVariants as gate
use Rattle.constraint_graph.specs.declared.node.Node.{Node}
use Rattle.constraint_graph.proofs.Atoms.{each_there}
use Rattle.constraint_graph.specs.Logics.{Logic, every, some}
use Rattle.constraint_graph.specs.Graphs.{atom_of_gate, atoms_of}
use Rattle.constraint_graph.specs.Values.{related, carried, gate_value, node_value, values, value}

-- the ways of joining values keep the relation
pub record Keeps {V W : Type 0} (L : Logic V) (M : Logic W) (R : V → W → Type 0) : Type 0 where
  pub yes : R L.yes M.yes
  pub no : R L.no M.no
  pub both : (a b : V) (c d : W) → R a c → R b d → R (L.both a b) (M.both c d)
  pub either : (a b : V) (c d : W) → R a c → R b d → R (L.either a b) (M.either c d)
  pub opposite : (a : V) (c : W) → R a c → R (L.opposite a) (M.opposite c)

module _ {V W : Type 0} (L : Logic V) (M : Logic W) (R : V → W → Type 0) (keeps : Keeps L M R) where
  every_related : {X : Type 0} (f : X → V) (g : X → W) (xs : List X) → ((x : X) → R (f x) (g x)) → R (every L f xs) (every M g xs)
  every_related f g [] each = keeps.yes
  every_related f g (x ∷ xs) each = keeps.both _ _ _ _ (each x) (every_related f g xs each)

  some_related : {X : Type 0} (f : X → V) (g : X → W) (xs : List X) → ((x : X) → R (f x) (g x)) → R (some L f xs) (some M g xs)
  some_related f g [] each = keeps.no
  some_related f g (x ∷ xs) each = keeps.either _ _ _ _ (each x) (some_related f g xs each)

  at_related : (vs : List V) (ws : List W) (k : ℕ) → AllZip R vs ws → R (get_or vs k L.no) (get_or ws k M.no)
  at_related [] [] k h = keeps.no
  at_related [] (w ∷ ws) k h = absurd h
  at_related (v ∷ vs) [] k h = absurd h
  at_related (v ∷ vs) (w ∷ ws) zero h = h.0
  at_related (v ∷ vs) (w ∷ ws) (suc k) h = at_related vs ws k h.1

  related_related : (r : Relation) (v : V) (w : W) → R v w → R (related L r v) (related M r w)
  related_related Positive v w h = h
  related_related Negative v w h = keeps.opposite v w h

  module _ (says : Atom → V) (tells : Atom → W) where
    -- each atom's values are related
    abbrev pub Agree : List Atom → Type 0
    Agree atoms = AllByRecursion (λ atom. R (says atom) (tells atom)) atoms

    gate_related : (f : Edge → V) (g : Edge → W) (gate : Gate) (edges : List Edge) (rest : List Atom) → ((e : Edge) → R (f e) (g e)) → Agree (cons_option (atom_of_gate gate) rest) → R (gate_value L says f gate edges) (gate_value M tells g gate edges)
    gate_related f g (gate.Test atom) [] rest each agree = agree.0
    gate_related f g (gate.Test atom) (e ∷ es) rest each agree = keeps.both _ _ _ _ agree.0 (some_related f g (e ∷ es) each)
    gate_related f g gate.All edges rest each agree = every_related f g edges each
    gate_related f g gate.Any edges rest each agree = some_related f g edges each

    agree_later : (gate : Gate) (rest : List Atom) → Agree (cons_option (atom_of_gate gate) rest) → Agree rest
    agree_later (gate.Test atom) rest agree = agree.1
    agree_later gate.All rest agree = agree
    agree_later gate.Any rest agree = agree

    values_grow : (vs : List V) (ws : List W) (nodes : List Node) → AllZip R vs ws → Agree (atoms_of nodes) → AllZip R (fold (λ before node. before ++ node_value L says before node ∷ []) vs nodes) (fold (λ before node. before ++ node_value M tells before node ∷ []) ws nodes)
    values_grow vs ws [] zipped agree = zipped
    values_grow vs ws (n ∷ nodes) zipped agree =
        let one = gate_related (carried L vs) (carried M ws) n.gate n.incoming (atoms_of nodes) (λ e. related_related e.relation _ _ (at_related vs ws e.from zipped)) agree in
        values_grow (vs ++ node_value L says vs n ∷ []) (ws ++ node_value M tells ws n ∷ []) nodes (all_zipped_more R vs ws _ _ zipped one) (agree_later n.gate (atoms_of nodes) agree)

    pub value_related : (nodes : List Node) (k : ℕ) → Agree (atoms_of nodes) → R (value L says nodes k) (value M tells nodes k)
    value_related nodes k agree = at_related (values L says nodes) (values M tells nodes) k (values_grow [] [] nodes tt agree)

    -- the same, where it is said of each atom that stands there
    pub value_related_each : (nodes : List Node) (k : ℕ) → ((atom : Atom) → Contains (atoms_of nodes) atom → R (says atom) (tells atom)) → R (value L says nodes k) (value M tells nodes k)
    value_related_each nodes k each = value_related nodes k (each_there (λ atom. R (says atom) (tells atom)) (atoms_of nodes) each)
