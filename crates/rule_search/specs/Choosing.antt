-- Live atoms by their numbers, and where atoms stand, as verdicts tell it.
use Rattle.std.specs.Prelude.{ℕ, List, Bool, not, ◌&&◌, ◌==◌, slice_get}
use Rattle.std.specs.List.{list_any}
use Rattle.std.specs.Option.{IsSomeAnd}
use Rattle.key_table.specs.declared.atom.Verdict3.{Verdict3}
use Rattle.rule_problem.specs.declared.problem.Literal.{Literal}
use Rattle.rule_problem.specs.Open.{IsLive}
use Rattle.domain_store.specs.Stores.{Seen, context_of}
use Rattle.rule_search.specs.Told.{is_refuted, has_entailed}

-- The atom with a number is live.
abbrev pub IsLiveAt : Seen → ℕ → Type 0
IsLiveAt seen n = IsSomeAnd (slice_get seen.problem.atoms n) (IsLive seen.table seen.problem (context_of seen))

-- whether some literal of the path is on the atom with a number
abbrev pub stands_in : ℕ → List Literal → Bool
stands_in n path = list_any (λ (l : Literal). l.atom == n) path

-- whether the atom stands in the path, which has no refuted literal
abbrev pub stands_in_open : List Verdict3 → ℕ → List Literal → Bool
stands_in_open verdicts n path = stands_in n path && not (is_refuted verdicts path)

-- whether the atom stands in such a path of a want that has no entailed path
abbrev pub stands_in_wants : List Verdict3 → ℕ → List (List (List Literal)) → Bool
stands_in_wants verdicts n wants = list_any (λ (paths : List (List Literal)). not (has_entailed verdicts paths) && list_any (stands_in_open verdicts n) paths) wants
