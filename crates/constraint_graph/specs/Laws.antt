-- What verdicts on the atoms of a graph tell of its nodes.
use Rattle.std.specs.Prelude.{◌≡◌, ℕ, List, Bool, true, false, not, ⊤}
use Rattle.std.specs.List.{Contains}
use Rattle.key_table.specs.declared.atom.Atom.{Atom}
use Rattle.key_table.specs.declared.atom.Verdict3.{Verdict3}
use Rattle.key_table.specs.declared.atom.Verdict3.TheVariants.{Entailed, Refuted, Undecided}
use Rattle.key_table.specs.Options.{holds_on}
use Rattle.key_table.specs.Payments.{Entries}
use Rattle.constraint_graph.specs.declared.node.Node.{Node}
use Rattle.constraint_graph.specs.Graphs.{atoms_of}
use Rattle.constraint_graph.specs.Values.{holds, verdict}

-- Something is so of each atom of the graph.
abbrev pub OfEach : (Atom → Type 0) → List Node → Type 0
OfEach P nodes = (atom : Atom) → Contains (atoms_of nodes) atom → P atom

-- Verdicts that agree on the graph's atoms give each node the same verdict.
abbrev pub AgreeLaw : Type 0
AgreeLaw = (says tells : Atom → Verdict3) (nodes : List Node) (node : ℕ) → OfEach (λ atom. says atom ≡ tells atom) nodes → verdict says nodes node ≡ verdict tells nodes node

-- A verdict stays where it is decided; an undecided one may become any.
abbrev pub Stays : Verdict3 → Verdict3 → Type 0
Stays Entailed later = later ≡ Entailed
Stays Refuted later = later ≡ Refuted
Stays Undecided later = ⊤

-- Where each atom of the graph only gets decided, so does each node.
abbrev pub MoreLaw : Type 0
MoreLaw = (says tells : Atom → Verdict3) (nodes : List Node) (node : ℕ) → OfEach (λ atom. Stays (says atom) (tells atom)) nodes → Stays (verdict says nodes node) (verdict tells nodes node)

-- Where a node is undecided, so is one of the graph's atoms.
abbrev pub UndecidedLaw : Type 0
UndecidedLaw = (says : Atom → Verdict3) (nodes : List Node) (node : ℕ) → verdict says nodes node ≡ Undecided → (atom : Atom) × Contains (atoms_of nodes) atom × (says atom ≡ Undecided)

-- what is known of what holds or does not
abbrev pub known : Bool → Verdict3
known true = Entailed
known false = Refuted

-- Where all is known of the atoms, a node's verdict is whether it holds.
abbrev pub TotalLaw : Type 0
TotalLaw = (payment : Entries) (nodes : List Node) (node : ℕ) → verdict (λ atom. known (holds_on atom payment)) nodes node ≡ known (holds nodes payment node)

-- whether what is known agrees with what holds
abbrev pub agrees : Verdict3 → Bool → Bool
agrees Entailed holds = holds
agrees Refuted holds = not holds
agrees Undecided holds = true

-- Where what is known agrees with a payment at each atom of the graph, it does at each node.
abbrev pub SoundLaw : Type 0
SoundLaw = (says : Atom → Verdict3) (payment : Entries) (nodes : List Node) (node : ℕ) → OfEach (λ atom. agrees (says atom) (holds_on atom payment) ≡ true) nodes → agrees (verdict says nodes node) (holds nodes payment node) ≡ true
