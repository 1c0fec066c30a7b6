-- It cannot be that an atom has no verdict, or that no function gives those of finitely many atoms.
use Rattle.std.proofs.Common.{◌≡◌, zero, suc, List, [], ◌∷◌, Bool, true, false, cond, refl, sym, ◌∙◌, subst, arith}
use Rattle.std.specs.List.{Contains}
use Rattle.std.proofs.lemmas.Bool.{false≢true}
use Rattle.key_table.specs.declared.atom.Atom.{Atom}
use Rattle.key_table.specs.declared.atom.Verdict3.{Verdict3}
use Rattle.key_table.specs.declared.atom.Verdict3.TheVariants.{Entailed, Refuted, Undecided}
use Rattle.key_table.specs.Contexts.{Context, HasVerdict}
use Rattle.key_table.specs.Tables.{Table}
use Rattle.rule_problem.specs.Distinct.{is_same}
use Rattle.rule_problem.proofs.Names.{SameLaw, same_self}

pub judged : (table : Table) (c : Context) (a : Atom) → ((v : Verdict3) → HasVerdict table c a v → ⊥) → ⊥
judged table c a none = none Undecided (λ e. none Entailed (e, none Refuted), none Refuted)

-- an atom that is told apart from the first stands later
later : (a x : Atom) (atoms : List Atom) → is_same a x ≡ false → Contains (a ∷ atoms) x → Contains atoms x
later a x atoms other (zero, within, is) = absurd (false≢true (sym other ∙ subst (λ (y : Atom). is_same a y ≡ true) is (same_self a)))
later a x atoms other (suc k, within, is) = (k, omega arith, is)

module _ (law : SameLaw) (R : Atom → Verdict3 → Type 0) (some : (a : Atom) → ((v : Verdict3) → R a v → ⊥) → ⊥) where
  abbrev Each : List Atom → (Atom → Verdict3) → Type 0
  Each atoms says = (x : Atom) → Contains atoms x → R x (says x)

  each_more : (a : Atom) (atoms : List Atom) (v : Verdict3) (says : Atom → Verdict3) → R a v → Each atoms says → Each (a ∷ atoms) (λ x. cond (is_same a x) v (says x))
  each_more a atoms v says h each x stands =
      elim (is_same a x) as (λ (t : Bool). is_same a x ≡ t → R x (cond t v (says x))) [
        | true ↦ (λ is. subst (λ (y : Atom). R y v) (law a x is) h)
        | false ↦ (λ is. each x (later a x atoms is stands))
      ] refl

  pub assigned : (atoms : List Atom) → ((says : Atom → Verdict3) → Each atoms says → ⊥) → ⊥
  assigned [] none = none (λ x. Undecided) (λ x stands. absurd (let w = stands.1 in omega arith))
  assigned (a ∷ atoms) none = some a (λ v h. assigned atoms (λ says each. none (λ x. cond (is_same a x) v (says x)) (each_more a atoms v says h each)))
