-- Verdicts of nodes, and an assignment of verdicts to the atoms of a graph.
use Rattle.std.proofs.Common.{◌≡◌, ℕ, zero, suc, ◌+◌, ◌<◌, ◌≤◌, List, [], ◌∷◌, ◌++◌, length, get_or, take, fold, Bool, true, false, nat_lt, ◌&&◌, cond, Option, Some, None, option_map, slice_get, IfSome, refl, ap, sym, ◌∙◌, subst, arith}
use Rattle.std.specs.List.{cons_option, Contains}
use Rattle.std.specs.Option.{option_map_or}
use Rattle.std.proofs.lemmas.Bool.{false≢true, true≢false, and_parts, ltb-true}
use Rattle.std.proofs.lemmas.Option.{same_Some, none-some, slice_get-get_or}
use Rattle.std.proofs.lemmas.List.{take_all, take_more, get_or_default}
use Rattle.std.proofs.lemmas.List.Sums.{fold_push}
use Rattle.key_table.specs.declared.atom.Atom.{Atom}
use Rattle.key_table.specs.declared.atom.Verdict3.{Verdict3}
use Rattle.key_table.specs.declared.atom.Verdict3.TheVariants.{Entailed, Refuted, Undecided}
use Rattle.key_table.specs.contracts.atom.AtomPartialEq.TheImpl as by_atom
use Rattle.key_table.specs.contracts.atom.AtomEq.TheImpl.Laws as equal_atoms
use Rattle.key_table.specs.Contexts.{Context, HasVerdict}
use Rattle.key_table.specs.Tables.{Table}
use Rattle.constraint_graph.specs.declared.node.Edge.{Edge}
use Rattle.constraint_graph.specs.declared.node.Gate.{Gate}
use Rattle.constraint_graph.specs.declared.node.Gate.TheVariants as gate
use Rattle.constraint_graph.specs.declared.node.Node.{Node}
use Rattle.constraint_graph.specs.Graphs.{atom_of, atom_of_gate, atoms_of}
use Rattle.constraint_graph.specs.Logics.{three_valued, every, some, lesser, greater}
use Rattle.constraint_graph.specs.Values.{carried, gate_value, node_value, values}
use Rattle.rule_problem.specs.declared.problem.Problem.{Problem}
use Rattle.rule_problem.specs.Problems.{problem_fits, atoms_fit, atoms_stand, literals_fit, numbers_fit}
use Rattle.domain_store.specs.Kept.{atom_at}
use Rattle.domain_store.proofs.ContextLemmas.{element}
use Rattle.domain_store.specs.NodeVerdicts.{AreOwnVerdicts, Gives}
use Rattle.domain_store.specs.Stores.{Seen, context_of}
use Rattle.domain_store.specs.Verdicts.{HasGoalVerdict}

-- ---- least and greatest

lesser-assoc : (a b c : Verdict3) → lesser (lesser a b) c ≡ lesser a (lesser b c)
lesser-assoc Refuted b c = refl
lesser-assoc Entailed b c = refl
lesser-assoc Undecided Refuted c = refl
lesser-assoc Undecided Entailed c = refl
lesser-assoc Undecided Undecided Refuted = refl
lesser-assoc Undecided Undecided Entailed = refl
lesser-assoc Undecided Undecided Undecided = refl

greater-assoc : (a b c : Verdict3) → greater (greater a b) c ≡ greater a (greater b c)
greater-assoc Entailed b c = refl
greater-assoc Refuted b c = refl
greater-assoc Undecided Entailed c = refl
greater-assoc Undecided Refuted c = refl
greater-assoc Undecided Undecided Refuted = refl
greater-assoc Undecided Undecided Entailed = refl
greater-assoc Undecided Undecided Undecided = refl

lesser-yes : (a : Verdict3) → lesser a Entailed ≡ a
lesser-yes Refuted = refl
lesser-yes Entailed = refl
lesser-yes Undecided = refl

greater-no : (a : Verdict3) → greater a Refuted ≡ a
greater-no Refuted = refl
greater-no Entailed = refl
greater-no Undecided = refl

-- all of the items, one by one from the front
pub fold_lesser : {X : Type 0} (f : X → Verdict3) (a : Verdict3) (xs : List X) → fold (λ v x. lesser v (f x)) a xs ≡ lesser a (every three_valued f xs)
fold_lesser f a [] = sym (lesser-yes a)
fold_lesser f a (x ∷ xs) = fold_lesser f (lesser a (f x)) xs ∙ lesser-assoc a (f x) (every three_valued f xs)

-- some of the items
pub fold_greater : {X : Type 0} (f : X → Verdict3) (a : Verdict3) (xs : List X) → fold (λ v x. greater v (f x)) a xs ≡ greater a (some three_valued f xs)
fold_greater f a [] = sym (greater-no a)
fold_greater f a (x ∷ xs) = fold_greater f (greater a (f x)) xs ∙ greater-assoc a (f x) (some three_valued f xs)

pub least_is : {X : Type 0} (f : X → Verdict3) (xs : List X) (i : ℕ) (v : Verdict3) → length xs ≤ i → v ≡ fold (λ w x. lesser w (f x)) Entailed (take i xs) → v ≡ every three_valued f xs
least_is f xs i v past is = is ∙ ap (λ ys. fold (λ w x. lesser w (f x)) Entailed ys) (take_all i xs past) ∙ fold_lesser f Entailed xs

pub greatest_is : {X : Type 0} (f : X → Verdict3) (xs : List X) (i : ℕ) (v : Verdict3) → length xs ≤ i → v ≡ fold (λ w x. greater w (f x)) Refuted (take i xs) → v ≡ some three_valued f xs
greatest_is f xs i v past is = is ∙ ap (λ ys. fold (λ w x. greater w (f x)) Refuted ys) (take_all i xs past) ∙ fold_greater f Refuted xs

-- ---- one node

abbrev value_of_gate : Verdict3 → List Verdict3 → Gate → List Edge → Verdict3
value_of_gate own before g edges = gate_value three_valued (λ (atom : Atom). own) (carried three_valued before) g edges

-- ---- all nodes in order

gate_agrees : (g : Gate) (es : List Edge) (own : Verdict3) (before : List Verdict3) (says : Atom → Verdict3) → ((atom : Atom) → atom_of_gate g ≡ Some atom → says atom ≡ own) → value_of_gate own before g es ≡ gate_value three_valued says (carried three_valued before) g es
gate_agrees (gate.Test atom) [] own before says agrees = sym (agrees atom refl)
gate_agrees (gate.Test atom) (e ∷ es) own before says agrees = ap (λ v. lesser v (some three_valued (carried three_valued before) (e ∷ es))) (sym (agrees atom refl))
gate_agrees gate.All es own before says agrees = refl
gate_agrees gate.Any es own before says agrees = refl

-- the value of a node, by its own verdict and the values before it
pub values_more : (front : List Node) (n : Node) (own v : Verdict3) (vs : List Verdict3) (says : Atom → Verdict3) → vs ≡ values three_valued says front → v ≡ node_value three_valued (λ (atom : Atom). own) vs n → ((atom : Atom) → atom_of n ≡ Some atom → says atom ≡ own) → vs ++ v ∷ [] ≡ values three_valued says (front ++ n ∷ [])
values_more front n own v vs says so_far is agrees =
    ap (λ w. vs ++ w ∷ []) (is ∙ gate_agrees n.gate n.incoming own vs says agrees)
    ∙ ap (λ (ws : List Verdict3). ws ++ node_value three_valued says ws n ∷ []) so_far
    ∙ sym (fold_push (λ before node. before ++ node_value three_valued says before node ∷ []) [] front n)

abbrev pub ValuesAre : List Node → List Verdict3 → List Verdict3 → ℕ → Type 0
ValuesAre graph own vs k = (says : Atom → Verdict3) → ((node : ℕ) (atom : Atom) → atom_at graph node ≡ Some (Some atom) → says atom ≡ get_or own node Refuted) → vs ≡ values three_valued says (take k graph)

-- the verdicts of one node more
pub node_more : (graph : List Node) (own vs : List Verdict3) (k : ℕ) (o v : Verdict3) → k < length graph → o ≡ get_or own k Refuted → IfSome (slice_get graph k) (λ n. v ≡ node_value three_valued (λ (atom : Atom). o) vs n) → ValuesAre graph own vs k → ValuesAre graph own (vs ++ v ∷ []) (k + 1)
node_more graph own vs k o v within is here so_far says agrees =
    let n = get_or graph k (element graph k within) in
    let at : slice_get graph k ≡ Some n = slice_get-get_or graph k (element graph k within) within in
    let P : Option Node → Type 0 = λ x. IfSome x (λ n. v ≡ node_value three_valued (λ (atom : Atom). o) vs n) in
    let Q : List Node → Type 0 = λ ns. vs ++ v ∷ [] ≡ values three_valued says ns in
    subst Q (sym (take_more graph k (element graph k within) within))
    (values_more (take k graph) n o v vs says (so_far says agrees) (subst P at here)
    (λ atom own_is. agrees k atom (ap (λ (x : Option Node). option_map atom_of x) at ∙ ap (λ (x : Option Atom). Some x) own_is) ∙ sym is))

pub all_nodes : (graph : List Node) (own vs : List Verdict3) (k : ℕ) → length graph ≤ k → ValuesAre graph own vs k → (says : Atom → Verdict3) → ((node : ℕ) (atom : Atom) → atom_at graph node ≡ Some (Some atom) → says atom ≡ get_or own node Refuted) → vs ≡ values three_valued says graph
all_nodes graph own vs k past so_far says agrees = so_far says agrees ∙ ap (λ ns. values three_valued says ns) (take_all k graph past)

-- ---- an assignment that gives each node's own verdict

abbrev is_own : Node → Atom → Bool
is_own node atom = option_map_or (λ own. by_atom.eq-value.it own atom) (atom_of node) false

-- the own verdict of the first node that has the atom
abbrev pub said : List Node → List Verdict3 → Atom → Verdict3
said [] own atom = Refuted
said (n ∷ ns) [] atom = Refuted
said (n ∷ ns) (v ∷ vs) atom = cond (is_own n atom) v (said ns vs atom)

module _ (law : (a b : Atom) → by_atom.eq-value.it a b ≡ true → a ≡ b) (R : Atom → Verdict3 → Type 0) where
  abbrev AreOwn : List Node → List Verdict3 → Type 0
  AreOwn graph own = (node : ℕ) (atom : Atom) → atom_at graph node ≡ Some (Some atom) → R atom (get_or own node Refuted)

  at_first : (n : Node) (ns : List Node) (v : Verdict3) (vs : List Verdict3) (atom : Atom) → AreOwn (n ∷ ns) (v ∷ vs) → (o : Option Atom) → atom_of n ≡ o → option_map_or (λ own. by_atom.eq-value.it own atom) o false ≡ true → R atom v
  at_first n ns v vs atom are None is h = absurd (false≢true h)
  at_first n ns v vs atom are (Some a) is h = let P : Atom → Type 0 = λ x. R x v in subst P (law a atom h) (are 0 a (ap (λ (o : Option Atom). Some o) is))

  at_later : (n : Node) (ns : List Node) (vs : List Verdict3) (atom : Atom) → is_own n atom ≡ false → ((node : ℕ) → atom_at ns node ≡ Some (Some atom) → R atom (said ns vs atom)) → (node : ℕ) → atom_at (n ∷ ns) node ≡ Some (Some atom) → R atom (said ns vs atom)
  at_later n ns vs atom other rest zero at =
      absurd (true≢false (sym (equal_atoms.laws-law.refl atom) ∙ ap (λ (o : Option Atom). option_map_or (λ own. by_atom.eq-value.it own atom) o false) (sym (same_Some _ _ at)) ∙ other))
  at_later n ns vs atom other rest (suc node) at = rest node at

  pub said_right : (graph : List Node) (own : List Verdict3) → length own ≡ length graph → AreOwn graph own → (node : ℕ) (atom : Atom) → atom_at graph node ≡ Some (Some atom) → R atom (said graph own atom)
  said_right [] own count are node atom at = absurd (none-some (Some atom) at)
  said_right (n ∷ ns) [] count are node atom at = absurd (omega (arith, count))
  said_right (n ∷ ns) (v ∷ vs) count are node atom at =
      elim (is_own n atom) as (λ (b : Bool). is_own n atom ≡ b → R atom (cond b v (said ns vs atom))) [
        | true ↦ (λ mine. at_first n ns v vs atom are (atom_of n) refl mine)
        | false ↦ (λ other. at_later n ns vs atom other (λ m e. said_right ns vs (omega (arith, count)) (λ k a f. are (suc k) a f) m atom e) node at)
      ] refl

first_or_later : (n : Node) (ns : List Node) (a atom : Atom) → atom_of n ≡ Some a → (Contains (atoms_of ns) atom → (node : ℕ) × (atom_at ns node ≡ Some (Some atom))) → (k : ℕ) → k < length (a ∷ atoms_of ns) → get_or (a ∷ atoms_of ns) k atom ≡ atom → (node : ℕ) × (atom_at (n ∷ ns) node ≡ Some (Some atom))
first_or_later n ns a atom is rest zero within at = (0, ap (λ (o : Option Atom). Some o) (is ∙ ap (λ (b : Atom). Some b) at))
first_or_later n ns a atom is rest (suc k) within at = let r = rest (k, omega arith, at) in (suc r.0, r.1)

-- each atom of a graph is that of a node
pub node_of_atom : (graph : List Node) (atom : Atom) → Contains (atoms_of graph) atom → (node : ℕ) × (atom_at graph node ≡ Some (Some atom))
node_of_atom [] atom there = absurd (omega (arith, there.1))
node_of_atom (n ∷ ns) atom there =
    elim (atom_of n) as (λ (o : Option Atom). atom_of n ≡ o → Contains (cons_option o (atoms_of ns)) atom → (node : ℕ) × (atom_at (n ∷ ns) node ≡ Some (Some atom))) [
      | None ↦ (λ is c. let r = node_of_atom ns atom c in (suc r.0, r.1))
      | Some a ↦ (λ is c. first_or_later n ns a atom is (node_of_atom ns atom) c.0 c.1 c.2)
    ] refl there

-- the atom of a node is one of the graph
pub atom_of_node : (graph : List Node) (node : ℕ) (atom : Atom) → atom_at graph node ≡ Some (Some atom) → Contains (atoms_of graph) atom
atom_of_node [] node atom at = absurd (none-some (Some atom) at)
atom_of_node (n ∷ ns) zero atom at =
    let P : Option Atom → Type 0 = λ o. Contains (cons_option o (atoms_of ns)) atom in
    subst P (sym (same_Some _ _ at)) (0, omega arith, refl)
atom_of_node (n ∷ ns) (suc node) atom at =
    let c = atom_of_node ns node atom at in
    elim (atom_of n) as (λ (o : Option Atom). Contains (cons_option o (atoms_of ns)) atom) [
      | None ↦ c
      | Some a ↦ (suc c.0, omega (arith, c.1), c.2)
    ]

-- an atom has one verdict in a context
pub one_verdict : (table : Table) (context : Context) (atom : Atom) (v w : Verdict3) → HasVerdict table context atom v → HasVerdict table context atom w → v ≡ w
one_verdict table context atom Refuted Refuted h i = refl
one_verdict table context atom Refuted Entailed h i = absurd (i.1 h)
one_verdict table context atom Refuted Undecided h i = absurd (i.1 h)
one_verdict table context atom Entailed Refuted h i = absurd (h.1 i)
one_verdict table context atom Entailed Entailed h i = refl
one_verdict table context atom Entailed Undecided h i = absurd (i.0 h.0)
one_verdict table context atom Undecided Refuted h i = absurd (h.1 i)
one_verdict table context atom Undecided Entailed h i = absurd (h.0 i.0)
one_verdict table context atom Undecided Undecided h i = refl

-- the goal's verdict, by the verdicts of the nodes' own atoms
pub goal_is : ((a b : Atom) → by_atom.eq-value.it a b ≡ true → a ≡ b) → (seen : Seen) (own vs : List Verdict3) (v : Verdict3) → AreOwnVerdicts seen own → ((says : Atom → Verdict3) → Gives seen.problem.graph own says → vs ≡ values three_valued says seen.problem.graph) → seen.problem.goal < length vs → v ≡ get_or vs seen.problem.goal v → HasGoalVerdict seen v
goal_is law seen own vs v owns made within is =
    let graph = seen.problem.graph in
    let R : Atom → Verdict3 → Type 0 = λ atom w. HasVerdict seen.table (context_of seen) atom w in
    let right = said_right law R graph own owns.count owns.are in
    let says : Atom → Verdict3 = λ atom. said graph own atom in
    record {
      says = says;
      are = λ atom there. let r = node_of_atom graph atom there in right r.0 atom r.1;
      is = ap (λ ws. get_or ws seen.problem.goal Refuted) (sym (made says (λ node atom at. one_verdict seen.table (context_of seen) atom (says atom) (get_or own node Refuted) (right node atom at) (owns.are node atom at))))
          ∙ get_or_default vs seen.problem.goal Refuted v within ∙ sym is;
    }

-- the goal of a problem that fits is a node
pub goal_within : (table : Table) (problem : Problem) → problem_fits table problem ≡ true → problem.goal < length problem.graph
unfolding problem_fits
goal_within table problem fits =
    let rest = (and_parts (atoms_fit table problem) (atoms_stand problem && numbers_fit problem) fits).1 in
    let numbers = (and_parts (atoms_stand problem) (numbers_fit problem) rest).1 in
    ltb-true problem.goal (length problem.graph) (and_parts (literals_fit problem) (nat_lt problem.goal (length problem.graph)) numbers).1
