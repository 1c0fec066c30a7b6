-- The options of a domain, by its values.
use Rattle.std.proofs.Common.{◌≡◌, ℕ, List, Bool, true, false, not, cond, ◌&&◌, Option, Some, None, refl, ap, sym, ◌∙◌, subst}
use Rattle.std.specs.Bool.{beq, MatchBool}
use Rattle.std.specs.Option.{option_map_or}
use Rattle.std.specs.List.{list_any}
use Rattle.std.proofs.Math.Path.{fun_ext}
use Rattle.std.proofs.Math.Bool.{and-false}
use Rattle.std.proofs.lemmas.Bool.{false≢true}
use Rattle.key_table.specs.declared.slot.Slot.{Slot}
use Rattle.key_table.specs.declared.slot.Datum.{Datum}
use Rattle.key_table.specs.declared.atom.Atom.{Atom}
use Rattle.key_table.specs.declared.atom.Test.{Test}
use Rattle.key_table.specs.Tables.{Domain, Table, allows, domain_at, has_sub, slot_fits}
use Rattle.key_table.specs.Atoms.{test_holds, passes}
use Rattle.key_table.specs.Options.{is_option, holds_of}
use Rattle.interval_domains.specs.declared.domain.SlotDomain.{SlotDomain}
use Rattle.interval_domains.specs.Finding.{Tells}
use Rattle.key_table.specs.OptionSets.{HasOption, kept}
use Rattle.interval_domains.specs.Picks.{HasNoOption, FindsFirst, IsPick}
use Rattle.interval_domains.specs.Members.{has_value, members, IsPicked}

-- ---- an atom on the options

-- where the tests have to answer this, the atom has the truth
inside_is : (any none_of truth : Bool) → beq any (not (beq truth none_of)) ≡ beq (cond none_of (not any) any) truth
inside_is true true true = refl
inside_is true true false = refl
inside_is true false true = refl
inside_is true false false = refl
inside_is false true true = refl
inside_is false true false = refl
inside_is false false true = refl
inside_is false false false = refl

absent_is : (truth : Bool) → not truth ≡ beq false truth
absent_is true = refl
absent_is false = refl

-- a domain after it kept the options on which an atom has a truth
pub keep_members : (old new : SlotDomain) (atom : Atom) (tests : List Test) (truth inside : Bool) → tests ≡ atom.tests → inside ≡ not (beq truth atom.none_of) → new.absent ≡ (old.absent && not truth)
    → ((d : Datum) → has_value new.values d ≡ (has_value old.values d && beq (list_any (test_holds d) tests) inside)) → members new ≡ kept atom truth (members old)
unfolding members
keep_members old new atom tests truth inside same is absent values = fun_ext (λ o. elim o as (λ o. members new o ≡ kept atom truth (members old) o) [
  | None ↦ absent ∙ ap (λ b. old.absent && b) (absent_is truth)
  | (Some d) ↦ values d ∙ ap (λ (ts : List Test). has_value old.values d && beq (list_any (test_holds d) ts) inside) same ∙ ap (λ b. has_value old.values d && beq (list_any (test_holds d) atom.tests) b) is ∙ ap (λ b. has_value old.values d && b) (inside_is (list_any (test_holds d) atom.tests) atom.none_of truth)
])

-- an atom is true on an option that is a value, where the value passes
pub tells_true : (domain : SlotDomain) (atom : Atom) (b : Bool) → Tells (λ d. has_value domain.values d && passes atom d) b → Tells (λ o. members domain o && holds_of atom o) b
unfolding members
tells_true domain atom true one = (Some one.0, one.1)
tells_true domain atom false none = λ o. elim o as (λ o. (members domain o && holds_of atom o) ≡ false) [ None ↦ and-false domain.absent | (Some d) ↦ none d ]

-- it is false on absence, and on a value that doesn't pass
pub false_on_absence : (domain : SlotDomain) (atom : Atom) → domain.absent ≡ true → Tells (λ o. members domain o && not (holds_of atom o)) true
unfolding members
false_on_absence domain atom absent = (None, ap (λ b. b && true) absent)

pub tells_false : (domain : SlotDomain) (atom : Atom) (b : Bool) → domain.absent ≡ false → Tells (λ d. has_value domain.values d && not (passes atom d)) b → Tells (λ o. members domain o && not (holds_of atom o)) b
unfolding members
tells_false domain atom true absent one = (Some one.0, one.1)
tells_false domain atom false absent none = λ o. elim o as (λ o. (members domain o && not (holds_of atom o)) ≡ false) [ None ↦ ap (λ b. b && true) absent | (Some d) ↦ none d ]

tells_alike : {X : Type 0} (p q : X → Bool) (b : Bool) → ((x : X) → p x ≡ q x) → Tells p b → Tells q b
tells_alike p q true same one = (one.0, sym (same one.0) ∙ one.1)
tells_alike p q false same none = λ x. sym (same x) ∙ none x

not_not : (b : Bool) → b ≡ not (not b)
not_not true = refl
not_not false = refl

-- what the tests of an atom tell of the values tells of the options
module _ (domain : SlotDomain) (atom : Atom) (tests : List Test) (b : Bool) (same : tests ≡ atom.tests) where
  abbrev any : List Test → Datum → Bool
  any ts d = list_any (test_holds d) ts

  any_same : (f : Bool → Bool) → Tells (λ d. has_value domain.values d && f (any tests d)) b → Tells (λ d. has_value domain.values d && f (any atom.tests d)) b
  any_same f h = let P : List Test → Type 0 = λ ts. Tells (λ d. has_value domain.values d && f (any ts d)) b in subst P same h

  by_truth : (f : Bool → Bool) (none_of : Bool) → atom.none_of ≡ none_of → Tells (λ d. has_value domain.values d && f (cond none_of (not (any atom.tests d)) (any atom.tests d))) b → Tells (λ d. has_value domain.values d && f (passes atom d)) b
  by_truth f none_of is h = let P : Bool → Type 0 = λ v. Tells (λ d. has_value domain.values d && f (cond v (not (any atom.tests d)) (any atom.tests d))) b in subst P (sym is) h

  pub true_of_none : atom.none_of ≡ true → Tells (λ d. has_value domain.values d && not (any tests d)) b → Tells (λ o. members domain o && holds_of atom o) b
  true_of_none is h = tells_true domain atom b (by_truth (λ v. v) true is (any_same not h))

  pub true_of_some : atom.none_of ≡ false → Tells (λ d. has_value domain.values d && any tests d) b → Tells (λ o. members domain o && holds_of atom o) b
  true_of_some is h = tells_true domain atom b (by_truth (λ v. v) false is (any_same (λ v. v) h))

  pub false_of_none : domain.absent ≡ false → atom.none_of ≡ true → Tells (λ d. has_value domain.values d && any tests d) b → Tells (λ o. members domain o && not (holds_of atom o)) b
  false_of_none absent is h =
      tells_false domain atom b absent (by_truth not true is (tells_alike _ _ b (λ d. ap (λ v. has_value domain.values d && v) (not_not (any atom.tests d))) (any_same (λ v. v) h)))

  pub false_of_some : domain.absent ≡ false → atom.none_of ≡ false → Tells (λ d. has_value domain.values d && not (any tests d)) b → Tells (λ o. members domain o && not (holds_of atom o)) b
  false_of_some absent is h = tells_false domain atom b absent (by_truth not false is (any_same not h))

-- ---- all options of a slot

allowed_there : (o : Option Domain) (sub : Option (List ℕ)) (d : Datum) → option_map_or (λ domain. has_sub domain sub) o false ≡ true → option_map_or (λ domain. allows domain d) o false ≡ option_map_or (λ domain. has_sub domain sub && allows domain d) o false
allowed_there None sub d fits = absurd (false≢true fits)
allowed_there (Some domain) sub d fits = sym (ap (λ b. b && allows domain d) fits)

pub full_members : (table : Table) (slot : Slot) (domain : SlotDomain) → domain.absent ≡ true → slot_fits table slot ≡ true → ((d : Datum) → has_value domain.values d ≡ option_map_or (λ domain. allows domain d) (domain_at slot.key table) false) → members domain ≡ is_option table slot
unfolding members
full_members table slot domain absent fits values = fun_ext (λ o. elim o as (λ o. members domain o ≡ is_option table slot o) [
  | None ↦ absent
  | (Some d) ↦ values d ∙ allowed_there (domain_at slot.key table) slot.sub d fits
])

-- ---- whether an option is there, and which is picked

pub not_void : (domain : SlotDomain) (b : Bool) → b ≡ true → domain.absent ≡ b → MatchBool (not b) (HasNoOption (members domain)) (HasOption (members domain))
unfolding members
not_void domain b is absent = let P : Bool → Type 0 = λ v. MatchBool (not v) (HasNoOption (members domain)) (HasOption (members domain)) in subst P (sym is) (None, absent ∙ is)

pub void_or_not : (domain : SlotDomain) (b : Bool) → domain.absent ≡ false → Tells (has_value domain.values) b → MatchBool (not b) (HasNoOption (members domain)) (HasOption (members domain))
unfolding members
void_or_not domain true absent one = (Some one.0, one.1)
void_or_not domain false absent none = λ o. elim o as (λ o. members domain o ≡ false) [ None ↦ absent | (Some d) ↦ none d ]

none_there : (domain : SlotDomain) → domain.absent ≡ false → ((d : Datum) → has_value domain.values d ≡ false) → (o : Option Datum) → members domain o ≡ true → ⊥
unfolding members
none_there domain absent none None there = false≢true (sym absent ∙ there)
none_there domain absent none (Some d) there = false≢true (sym (none d) ∙ there)

pick_value : (domain : SlotDomain) (first : Option Datum) → domain.absent ≡ false → HasOption (members domain) → FindsFirst (has_value domain.values) first → IsPick (members domain) first
unfolding members
pick_value domain None absent one none = absurd (none_there domain absent none one.0 one.1)
pick_value domain (Some d) absent one first = (absent, first.0, first.1)

pick_by : (domain : SlotDomain) (option : Option Datum) (b : Bool) → domain.absent ≡ b → HasOption (members domain) → IsPicked b (has_value domain.values) option → IsPick (members domain) option
unfolding members
pick_by domain option true absent one none = let P : Option Datum → Type 0 = λ o. IsPick (members domain) o in subst P (sym none) absent
pick_by domain option false absent one first = pick_value domain option absent one first

-- what is picked of absence and the values is picked of the options
pub pick_of : (domain : SlotDomain) (option : Option Datum) → HasOption (members domain) → IsPicked domain.absent (has_value domain.values) option → IsPick (members domain) option
pick_of domain option one picked = pick_by domain option domain.absent refl one picked
