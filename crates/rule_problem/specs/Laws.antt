-- Laws of certificates and trees.
use Rattle.std.specs.Prelude.{◌≡◌, ℕ, ◌-◌, ◌^◌, ◌<◌, ◌≤◌, List, [], length, true, false, Result, Ok, count_by}
use Rattle.key_table.specs.declared.atom.Atom.{Atom}
use Rattle.key_table.specs.Contexts.{Context, IsWithin}
use Rattle.key_table.specs.Payments.{Entries}
use Rattle.key_table.specs.Tables.{Table}
use Rattle.rule_problem.specs.declared.certificate.Certificate.{Certificate}
use Rattle.rule_problem.specs.declared.certificate.Item.{Item}
use Rattle.rule_problem.specs.declared.certificate.Trace.{Trace}
use Rattle.rule_problem.specs.declared.problem.Problem.{Problem}
use Rattle.rule_problem.specs.Problems.{problem_fits, sat}
use Rattle.rule_problem.specs.Proving.{After, Comes, Proves}
use Rattle.rule_problem.specs.Traces.{AreProper, IsEnd, IsTrace}
use Rattle.rule_problem.specs.Trees.{Tree, is_split, split_count, Spells, TreeProves}

-- The items of a certificate come to one outcome.
abbrev pub OutcomeLaw : Type 0
OutcomeLaw = (table : Table) (problem : Problem) (certificate : Certificate) (r s : Result ℕ ℕ) → Comes table problem certificate r → Comes table problem certificate s → r ≡ s

-- Where the items of a certificate prove, no payment satisfies the problem.
abbrev pub ProofLaw : Type 0
ProofLaw = (table : Table) (problem : Problem) (certificate : Certificate) (payment : Entries) → problem_fits table problem ≡ true → Proves table problem certificate → sat table problem payment ≡ false

-- Where a tree proves, the items that spell it do.
abbrev pub ReadingLaw : Type 0
ReadingLaw = (table : Table) (problem : Problem) (certificate : Certificate) (tree : Tree) → Spells certificate.atoms certificate.items tree → TreeProves table problem [] tree → Proves table problem certificate

-- The items of a trace are read to the end, where gaps too end a branch.
abbrev pub TraceReadingLaw : Type 0
TraceReadingLaw = (table : Table) (problem : Problem) (budget : ℕ) (trace : Trace) → IsTrace table problem budget trace → After trace.atoms trace.items (IsEnd table problem trace.atoms) [] 0 (Ok (length trace.items))

-- The items that spell a tree have as many splits as it has.
abbrev pub SplitCountLaw : Type 0
SplitCountLaw = (atoms : List Atom) (items : List Item) (tree : Tree) → Spells atoms items tree → count_by is_split items ≡ split_count tree

-- With fewer assumptions the splits of a tree stay proper.
abbrev pub DropLaw : Type 0
DropLaw = (table : Table) (problem : Problem) (c d : Context) (tree : Tree) → IsWithin c d → AreProper table problem d tree → AreProper table problem c tree

-- A tree whose splits are all proper has at most 2 ^ a - 1 of them, where a is the number of the problem's atoms.
abbrev pub SplitsLaw : Type 0
SplitsLaw = (table : Table) (problem : Problem) (tree : Tree) → problem_fits table problem ≡ true → AreProper table problem [] tree → split_count tree ≤ 2 ^ length problem.atoms - 1

-- No trace of a budget of at least 2 ^ a - 1 exists.
abbrev pub TraceLaw : Type 0
TraceLaw = (table : Table) (problem : Problem) (budget : ℕ) (trace : Trace) → problem_fits table problem ≡ true → IsTrace table problem budget trace → budget < 2 ^ length problem.atoms - 1
