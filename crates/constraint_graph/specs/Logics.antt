-- Truth in two and in three values: one shape, so that what is said of a graph or of settings is said once.
use Rattle.std.specs.Prelude.{Bool, true, false, not, ◌&&◌, ◌||◌, List, [], ◌∷◌}
use Rattle.key_table.specs.declared.atom.Verdict3.{Verdict3}
use Rattle.key_table.specs.declared.atom.Verdict3.TheVariants.{Entailed, Refuted, Undecided}
use Rattle.key_table.specs.Contexts.{wanted}

-- Values of truth: what an empty 'all' and an empty 'some' have, how two are joined, and the opposite of one.
pub record Logic (V : Type 0) : Type 0 where
  pub yes : V
  pub no : V
  pub both : V → V → V
  pub either : V → V → V
  pub opposite : V → V

-- the value of 'all of these'
abbrev pub every : {V X : Type 0} → Logic V → (X → V) → List X → V
every logic value [] = logic.yes
every logic value (x ∷ xs) = logic.both (value x) (every logic value xs)

-- the value of 'some of these'
abbrev pub some : {V X : Type 0} → Logic V → (X → V) → List X → V
some logic value [] = logic.no
some logic value (x ∷ xs) = logic.either (value x) (some logic value xs)

-- what holds and what does not
abbrev pub two_valued : Logic Bool
two_valued = record { yes = true; no = false; both = λ a b. a && b; either = λ a b. a || b; opposite = λ a. not a }

-- the lesser of two verdicts, in the order refuted, undecided, entailed
abbrev pub lesser : Verdict3 → Verdict3 → Verdict3
lesser Refuted v = Refuted
lesser Entailed v = v
lesser Undecided Refuted = Refuted
lesser Undecided _ = Undecided

-- the greater of two
abbrev pub greater : Verdict3 → Verdict3 → Verdict3
greater Entailed v = Entailed
greater Refuted v = v
greater Undecided Entailed = Entailed
greater Undecided _ = Undecided

-- What is known. The opposite is the verdict of what is wanted false.
abbrev pub three_valued : Logic Verdict3
three_valued = record { yes = Entailed; no = Refuted; both = lesser; either = greater; opposite = wanted false }
