-- What a certificate is judged to be.
use Rattle.std.specs.Prelude.{◌≡◌, ◌<◌, ℕ, List, length}
use Rattle.key_table.specs.declared.atom.Atom.{Atom}
use Rattle.key_table.specs.Tables.{Table}
use Rattle.rule_problem.specs.declared.problem.Problem.{Problem}
use Rattle.rule_problem.specs.declared.certificate.Certificate.{Certificate}
use Rattle.rule_problem.specs.declared.certificate.Item.{Item}
use Rattle.rule_problem.specs.declared.certificate.Item.TheVariants.{Split}
use Rattle.rule_problem.specs.Proving.{Proves, FailsAt}
use Rattle.contradiction_checker.specs.declared.walk.Verdict.{Verdict}
use Rattle.contradiction_checker.specs.declared.walk.Verdict.TheVariants.{Accepted, Rejected}

-- Accepted where the items prove, and else rejected at the item that fails or is the first one left over.
abbrev pub Judges : Table → Problem → Certificate → Verdict → Type 0
Judges table problem certificate Accepted = Proves table problem certificate
Judges table problem certificate (Rejected i) = FailsAt table problem certificate i

-- The item splits on the atom with this number.
abbrev pub SplitsOn : List Atom → Item → ℕ → Type 0
SplitsOn atoms item x = (item ≡ Split x) × (x < length atoms)

-- The verdict where all is proved before an item: accepted where it is past the last one, else rejected at it.
abbrev pub EndsAt : ℕ → ℕ → Verdict → Type 0
EndsAt next count Accepted = next ≡ count
EndsAt next count (Rejected i) = (i ≡ next) × (next < count)
