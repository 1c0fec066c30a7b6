-- What the verdicts of a problem's atoms, as a list in their order, tell of literals, paths and wants.
use Rattle.std.specs.Prelude.{◌≡◌, ℕ, List, Bool, true, false, not, ◌&&◌, slice_get}
use Rattle.std.specs.List.{list_all, list_any}
use Rattle.std.specs.Option.{option_map_or, IsSomeAnd}
use Rattle.key_table.specs.declared.atom.Verdict3.{Verdict3}
use Rattle.key_table.specs.declared.atom.Verdict3.TheVariants.{Entailed, Refuted, Undecided}
use Rattle.key_table.specs.Contexts.{Forces}
use Rattle.rule_problem.specs.declared.problem.Literal.{Literal}
use Rattle.domain_store.specs.Stores.{Seen, context_of}

-- The truth is forced on the atom with a number.
abbrev pub IsForced : Seen → ℕ → Bool → Type 0
IsForced seen n truth = IsSomeAnd (slice_get seen.problem.atoms n) (λ atom. Forces seen.table (context_of seen) atom truth)

-- whether a verdict is that the atom has the truth
abbrev pub forces : Bool → Verdict3 → Bool
forces truth Entailed = truth
forces truth Refuted = not truth
forces truth Undecided = false

-- whether the list tells that the truth is forced on the atom with a number
abbrev pub is_forced : List Verdict3 → ℕ → Bool → Bool
is_forced verdicts n truth = option_map_or (forces truth) (slice_get verdicts n) false

-- The list tells which truths are forced, on each atom.
abbrev pub AreVerdicts : Seen → List Verdict3 → Type 0
AreVerdicts seen verdicts = (n : ℕ) (truth : Bool) → (is_forced verdicts n truth ≡ true → IsForced seen n truth) × (IsForced seen n truth → is_forced verdicts n truth ≡ true)

-- whether all literals of a path are entailed
abbrev pub is_entailed : List Verdict3 → List Literal → Bool
is_entailed verdicts path = list_all (λ (l : Literal). is_forced verdicts l.atom l.want) path

-- whether some literal of a path is refuted
abbrev pub is_refuted : List Verdict3 → List Literal → Bool
is_refuted verdicts path = list_any (λ (l : Literal). is_forced verdicts l.atom (not l.want)) path

-- whether some path has all its literals entailed
abbrev pub has_entailed : List Verdict3 → List (List Literal) → Bool
has_entailed verdicts paths = list_any (is_entailed verdicts) paths

-- whether each path has a refuted literal
abbrev pub are_refuted : List Verdict3 → List (List Literal) → Bool
are_refuted verdicts paths = list_all (is_refuted verdicts) paths

-- whether each want has an entailed path, and each bar a refuted literal
abbrev pub are_met : List Verdict3 → List (List (List Literal)) → List (List Literal) → Bool
are_met verdicts wants bars = list_all (has_entailed verdicts) wants && are_refuted verdicts bars
