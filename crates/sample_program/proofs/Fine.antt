-- The comparisons of samples are within the limits and typed, and their atoms are few.
use Rattle.std.proofs.Common.{◌≡◌, ℕ, pos, List, [], ◌∷◌, ◌++◌, length, map, true, None, inl, inr, refl}
use Rattle.std.specs.List.{AllByRecursion}
use Rattle.key_table.specs.declared.atom.Atom.{Atom}
use Rattle.key_table.specs.declared.atom.Op.TheVariants.{GreaterEqual}
use Rattle.key_table.specs.declared.atom.Test.TheVariants.{Number}
use Rattle.key_table.specs.BuiltIn.{built_in}
use Rattle.euclid_ast.specs.declared.statement.Comparison.{Comparison}
use Rattle.euclid_ast.specs.Limits.{is_comparison}
use Rattle.dir_typing.specs.Comparisons.{comparison_code}
use Rattle.dir_typing.specs.Numbered.{comparison_of}
use Rattle.vir_lowering.specs.Atoms.{atom_of}
use Rattle.connector_settings.specs.Demands.{demand_atom, asked, word_tests}
use Rattle.connector_settings.specs.Takes.{atoms_of_settings}
use Rattle.sample_program.specs.Comparisons.{comparisons}
use Rattle.sample_program.specs.Programs.{condition}
use Rattle.sample_program.specs.SettingsTexts.{settings}
use Rattle.sample_program.proofs.Alls.{Among, all_picked}

-- the atom of a comparison by the built-in table
abbrev pub atom_in : Comparison → Atom
atom_in c = atom_of (comparison_of built_in c)

-- the atoms of the settings that no comparison has
abbrev pub added : List Atom
added =
    demand_atom (asked 1 (word_tests (0 ∷ [])))
    ∷ demand_atom (asked 5 (word_tests (0 ∷ 1 ∷ [])))
    ∷ demand_atom (asked 7 (Number GreaterEqual (pos 100) ∷ []))
    ∷ []

-- all atoms that there may be
unfoldable pub atoms : List Atom
unfolding comparisons
atoms = map atom_in comparisons ++ added

pub atoms_count : length atoms ≡ 11
unfolding atoms comparisons
atoms_count = refl

pub record IsFine (c : Comparison) : Type 0 where
  pub within : is_comparison c ≡ true
  pub typed : comparison_code built_in c ≡ None
  pub atom : Among atoms (atom_in c)

all_fine : AllByRecursion IsFine comparisons
unfolding atoms comparisons
all_fine = (
  record { within = refl; typed = refl; atom = inl refl },
  (
    record { within = refl; typed = refl; atom = inr (inl refl) },
    (
      record { within = refl; typed = refl; atom = inr (inr (inl refl)) },
      (
        record { within = refl; typed = refl; atom = inr (inr (inr (inl refl))) },
        (
          record { within = refl; typed = refl; atom = inr (inr (inr (inr (inl refl)))) },
          (
            record { within = refl; typed = refl; atom = inr (inr (inr (inr (inr (inl refl))))) },
            (
              record { within = refl; typed = refl; atom = inr (inr (inr (inr (inr (inr (inl refl)))))) },
              (record { within = refl; typed = refl; atom = inr (inr (inr (inr (inr (inr (inr (inl refl))))))) }, tt),
            ),
          ),
        ),
      ),
    ),
  ),
)

pub condition_fine : (numbers : List ℕ) → AllByRecursion IsFine (condition numbers)
condition_fine numbers = all_picked IsFine comparisons numbers all_fine

-- the atoms of the settings are among these
pub settings_few : AllByRecursion (Among atoms) (atoms_of_settings built_in settings)
unfolding atoms comparisons settings
settings_few = (
  inl refl,
  (
    inr (inr (inr (inr (inr (inr (inr (inr (inl refl)))))))),
    (
      inr (inr (inr (inr (inr (inr (inr (inr (inr (inl refl))))))))),
      (inr (inr (inr (inr (inr (inr (inr (inr (inr (inr (inl refl)))))))))), tt),
    ),
  ),
)
