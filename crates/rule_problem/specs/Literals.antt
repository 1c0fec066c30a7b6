-- Literals: when they are true of a payment, and what a context says of them.
use Rattle.std.specs.Prelude.{List, Bool, false, not, if◌then◌else◌, slice_get}
use Rattle.std.specs.List.{AllByRecursion}
use Rattle.std.specs.Option.{option_map_or, IsSomeAnd}
use Rattle.key_table.specs.declared.atom.Atom.{Atom}
use Rattle.key_table.specs.Contexts.{Context, EntailsWanted, RefutesWanted}
use Rattle.key_table.specs.Options.{holds_on}
use Rattle.key_table.specs.Payments.{Entries}
use Rattle.key_table.specs.Tables.{Table}
use Rattle.rule_problem.specs.declared.problem.Literal.{Literal}
use Rattle.rule_problem.specs.Quantifiers.{AnyByRecursion}

-- Whether a literal is true of a payment: its atom has the truth that it wants.
abbrev pub is_true : List Atom → Entries → Literal → Bool
is_true atoms payment literal = option_map_or (λ atom. if literal.want then holds_on atom payment else not (holds_on atom payment)) (slice_get atoms literal.atom) false

-- A literal is entailed where the truth that it wants is forced on its atom, and refuted where the other one is.
abbrev pub IsEntailed : Table → Context → List Atom → Literal → Type 0
IsEntailed table context atoms literal = IsSomeAnd (slice_get atoms literal.atom) (λ atom. EntailsWanted table context atom literal.want)

abbrev pub IsRefuted : Table → Context → List Atom → Literal → Type 0
IsRefuted table context atoms literal = IsSomeAnd (slice_get atoms literal.atom) (λ atom. RefutesWanted table context atom literal.want)

-- All literals of a path are entailed.
abbrev pub AreEntailed : Table → Context → List Atom → List Literal → Type 0
AreEntailed table context atoms path = AllByRecursion (IsEntailed table context atoms) path

-- Some literal of a path is refuted.
abbrev pub HasRefuted : Table → Context → List Atom → List Literal → Type 0
HasRefuted table context atoms path = AnyByRecursion (IsRefuted table context atoms) path

-- Some path has all its literals entailed.
abbrev pub HasEntailed : Table → Context → List Atom → List (List Literal) → Type 0
HasEntailed table context atoms paths = AnyByRecursion (AreEntailed table context atoms) paths

-- Each path has a refuted literal.
abbrev pub AreRefuted : Table → Context → List Atom → List (List Literal) → Type 0
AreRefuted table context atoms paths = AllByRecursion (HasRefuted table context atoms) paths
