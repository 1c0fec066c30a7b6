-- The verdicts that a store gives, in the context of its assumptions.
use Rattle.std.specs.Prelude.{ℕ, List, slice_get}
use Rattle.std.specs.Option.{IsSomeAnd}
use Rattle.key_table.specs.declared.atom.Verdict3.{Verdict3}
use Rattle.key_table.specs.declared.atom.Verdict3.TheVariants.{Entailed, Refuted, Undecided}
use Rattle.key_table.specs.Contexts.{HasVerdict}
use Rattle.rule_problem.specs.declared.problem.Literal.{Literal}
use Rattle.rule_problem.specs.Goals.{GoalHasVerdict}
use Rattle.rule_problem.specs.Literals.{IsEntailed, IsRefuted, AreEntailed, HasRefuted}
use Rattle.domain_store.specs.Stores.{Seen, context_of}

-- The verdict of the atom with a number.
abbrev pub AtomHasVerdict : Seen → ℕ → Verdict3 → Type 0
AtomHasVerdict seen n verdict = IsSomeAnd (slice_get seen.problem.atoms n) (λ atom. HasVerdict seen.table (context_of seen) atom verdict)

-- A literal is refuted, or else entailed, or else undecided.
abbrev pub LiteralHasVerdict : Seen → Literal → Verdict3 → Type 0
LiteralHasVerdict seen literal Refuted = IsRefuted seen.table (context_of seen) seen.problem.atoms literal
LiteralHasVerdict seen literal Entailed =
    IsEntailed seen.table (context_of seen) seen.problem.atoms literal × (¬ (IsRefuted seen.table (context_of seen) seen.problem.atoms literal))
LiteralHasVerdict seen literal Undecided =
    (¬ (IsEntailed seen.table (context_of seen) seen.problem.atoms literal)) × (¬ (IsRefuted seen.table (context_of seen) seen.problem.atoms literal))

-- A path is refuted where some literal is, else entailed where all literals are, else undecided.
abbrev pub PathHasVerdict : Seen → List Literal → Verdict3 → Type 0
PathHasVerdict seen path Refuted = HasRefuted seen.table (context_of seen) seen.problem.atoms path
PathHasVerdict seen path Entailed =
    AreEntailed seen.table (context_of seen) seen.problem.atoms path × (¬ (HasRefuted seen.table (context_of seen) seen.problem.atoms path))
PathHasVerdict seen path Undecided =
    (¬ (AreEntailed seen.table (context_of seen) seen.problem.atoms path)) × (¬ (HasRefuted seen.table (context_of seen) seen.problem.atoms path))

-- The goal's verdict is what the graph makes of the verdicts of its atoms.
abbrev pub HasGoalVerdict : Seen → Verdict3 → Type 0
HasGoalVerdict seen verdict = GoalHasVerdict seen.table (context_of seen) seen.problem.graph seen.problem.goal verdict
