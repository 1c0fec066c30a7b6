-- Whether a context leaves an option with a truth, by trying few, is what the definition over every option says.
use Rattle.std.proofs.Common.{◌≡◌, ⊎_elim, List, [], ◌∷◌, length, nat_le, Bool, true, false, not, ◌&&◌, cond, Option, Some, None, refl, ap, sym, ◌∙◌}
use Rattle.std.specs.List.{list_all}
use Rattle.std.specs.Bool.{beq}
use Rattle.std.specs.Option.{option_map_or}
use Rattle.std.specs.Ordering.{is_eq}
use Rattle.std.proofs.lemmas.Bool.{and_parts, and_from, and_cases, both_ways, true_from_ne_false, true≢false, false≢true}
use Rattle.key_table.specs.declared.atom.Atom.{Atom}
use Rattle.key_table.specs.declared.atom.Test.{Test}
use Rattle.key_table.specs.declared.atom.Test.TheVariants as test
use Rattle.key_table.specs.declared.slot.Slot.{Slot}
use Rattle.key_table.specs.declared.slot.Datum.{Datum}
use Rattle.key_table.specs.Slots.{slot_cmp}
use Rattle.key_table.specs.Tables.{Table, Domain, variants, bounds, text, metadata, domain_at, has_sub, allows}
use Rattle.key_table.specs.Atoms.{atom_fits, test_fits}
use Rattle.key_table.specs.Options.{is_option, holds_of}
use Rattle.key_table.specs.Contexts.{Context, assume, has_truth, meets, Forces}
use Rattle.contradiction_checker.specs.Tries.{values_of, meets_all, some_option, on_slot, leaves}
use Rattle.contradiction_checker.specs.Laws.{Fit, IsLeftWith, TriesLaw}
use Rattle.contradiction_checker.proofs.OptionLaw.{no_option, an_option}
use Rattle.contradiction_checker.specs.Representatives.{is_short, may_be}
use Rattle.contradiction_checker.proofs.TextLaw.{are_short}

-- an option meets the context where it has the truths of the assumptions on its slot
pub meets_on_slot : (slot : Slot) (option : Option Datum) (context : Context) → meets_all (on_slot slot context) option ≡ meets context slot option
meets_on_slot slot option [] = refl
meets_on_slot slot option (a ∷ context) =
    elim (is_eq (slot_cmp slot a.atom.slot)) as (λ b. meets_all (cond b (a ∷ on_slot slot context) (on_slot slot context)) option ≡ (cond b (has_truth option a) true && meets context slot option)) [
      | true ↦ ap (λ (b : Bool). has_truth option a && b) (meets_on_slot slot option context)
      | false ↦ meets_on_slot slot option context
    ]

test_short : (domain : Domain) (t : Test) → test_fits domain t ≡ true → is_short t ≡ true
test_short domain (test.Variant v) fits = refl
test_short domain (test.Number op n) fits = refl
test_short text (test.Text t) fits = fits
test_short metadata (test.Text t) fits = fits
test_short (variants names) (test.Text t) fits = cc
test_short (bounds least greatest) (test.Text t) fits = cc

pub all_imply : {X : Type 0} (f g : X → Bool) → ((x : X) → f x ≡ true → g x ≡ true) → (xs : List X) → list_all f xs ≡ true → list_all g xs ≡ true
all_imply f g on [] h = refl
all_imply f g on (x ∷ xs) h =
    let parts = and_parts (f x) (list_all f xs) h in
    and_from (g x) (list_all g xs) (on x parts.0) (all_imply f g on xs parts.1)

-- What a fitting atom says of the domain of its key.
pub record Fitting (domain : Option Domain) (atom : Atom) : Type 0 where
  pub of : Domain
  pub is : domain ≡ Some of
  pub sub : has_sub of atom.slot.sub ≡ true
  pub short : list_all is_short atom.tests ≡ true

fitting_of : (domain : Option Domain) (atom : Atom) → option_map_or (λ d. has_sub d atom.slot.sub && (nat_le (length atom.tests) 4096 && list_all (test_fits d) atom.tests)) domain false ≡ true → Fitting domain atom
fitting_of None atom fits = cc
fitting_of (Some d) atom fits =
    let parts = and_parts (has_sub d atom.slot.sub) (nat_le (length atom.tests) 4096 && list_all (test_fits d) atom.tests) fits in
    let tests = (and_parts (nat_le (length atom.tests) 4096) (list_all (test_fits d) atom.tests) parts.1).1 in
    record { of = d; is = refl; sub = parts.0; short = all_imply (test_fits d) is_short (test_short d) atom.tests tests }

pub fitting : (table : Table) (atom : Atom) → atom_fits table atom ≡ true → Fitting (domain_at atom.slot.key table) atom
fitting table atom fits = fitting_of (domain_at atom.slot.key table) atom fits

short_on_slot : (table : Table) (slot : Slot) (context : Context) → Fit table context → are_short (on_slot slot context) ≡ true
short_on_slot table slot [] fit = refl
short_on_slot table slot (a ∷ context) fit =
    elim (is_eq (slot_cmp slot a.atom.slot)) as (λ b. are_short (cond b (a ∷ on_slot slot context) (on_slot slot context)) ≡ true) [
      | true ↦ and_from (list_all is_short a.atom.tests) (are_short (on_slot slot context)) (fitting table a.atom fit.0).short (short_on_slot table slot context fit.1)
      | false ↦ short_on_slot table slot context fit.1
    ]

-- the options of a slot, by the domain of its key
option_of : (domain : Domain) (slot : Slot) (option : Option Datum) → has_sub domain slot.sub ≡ true → may_be domain option ≡ true → (found : Option Domain) → found ≡ Some domain → option_map_or (λ d. has_sub d slot.sub && may_be d option) found false ≡ true
option_of domain slot option sub may found is = rw (is, sub) may

is_option-from : (table : Table) (slot : Slot) (domain : Domain) (option : Option Datum) → domain_at slot.key table ≡ Some domain → has_sub domain slot.sub ≡ true → may_be domain option ≡ true → is_option table slot option ≡ true
is_option-from table slot domain None is sub may = refl
is_option-from table slot domain (Some d) is sub may = rw (is, sub) may

is_option-may : (table : Table) (slot : Slot) (domain : Domain) (option : Option Datum) → domain_at slot.key table ≡ Some domain → is_option table slot option ≡ true → may_be domain option ≡ true
is_option-may table slot domain None is legal = refl
is_option-may table slot domain (Some d) is legal =
    let at_domain : (has_sub domain slot.sub && allows domain d) ≡ true = rw is at legal in
    (and_parts (has_sub domain slot.sub) (allows domain d) at_domain).1

beq-false : (a b : Bool) → beq a b ≡ false → a ≡ not b
beq-false true true h = cc
beq-false true false h = refl
beq-false false true h = refl
beq-false false false h = cc

beq-true : (a b : Bool) → beq a b ≡ true → a ≡ b
beq-true true true h = refl
beq-true true false h = cc
beq-true false true h = cc
beq-true false false h = refl

not_both : (b : Bool) → b ≡ not b → ⊥
not_both true h = true≢false h
not_both false h = false≢true h

-- Where no option that is left has the truth, the other truth is forced.
pub leaves-none : (table : Table) (context : Context) (atom : Atom) (truth : Bool) → atom_fits table atom ≡ true → leaves table context atom truth ≡ false → Forces table context atom (not truth)
leaves-none table context atom truth fits none = λ option left.
    let f = fitting table atom fits in
    let es = assume atom truth ∷ on_slot atom.slot context in
    let no : some_option (values_of f.of) es ≡ false = rw f.is at none in
    let fails = no_option f.of es option no (is_option-may table atom.slot f.of option f.is left.legal) in
    let rest : meets_all (on_slot atom.slot context) option ≡ true = meets_on_slot atom.slot option context ∙ left.met in
    ⊎_elim
    (λ (here : beq (holds_of atom option) truth ≡ false). beq-false (holds_of atom option) truth here)
    (λ (there : meets_all (on_slot atom.slot context) option ≡ false). absurd (both_ways _ there rest))
    (and_cases (beq (holds_of atom option) truth) (meets_all (on_slot atom.slot context) option) fails)

-- Where an option that is tried has the truth, an option that is left has it.
pub leaves-some : (table : Table) (context : Context) (atom : Atom) (truth : Bool) → atom_fits table atom ≡ true → Fit table context → leaves table context atom truth ≡ true → IsLeftWith table context atom truth
leaves-some table context atom truth fits fit some =
    let f = fitting table atom fits in
    let es = assume atom truth ∷ on_slot atom.slot context in
    let yes : some_option (values_of f.of) es ≡ true = rw f.is at some in
    let short = and_from (list_all is_short atom.tests) (are_short (on_slot atom.slot context)) f.short (short_on_slot table atom.slot context fit) in
    let found = an_option f.of es short yes in
    let parts = and_parts (beq (holds_of atom found.0) truth) (meets_all (on_slot atom.slot context) found.0) found.2 in
    record {
      option = found.0;
      left = record {
        legal = is_option-from table atom.slot f.of found.0 f.is f.sub found.1;
        met = sym (meets_on_slot atom.slot found.0 context) ∙ parts.1;
      };
      has = beq-true (holds_of atom found.0) truth parts.0;
    }

-- The tries decide whether an option is left with a truth.
pub tries_law : TriesLaw
tries_law = λ table context atom truth fits fit. (
  leaves-some table context atom truth fits fit,
  λ left. true_from_ne_false (leaves table context atom truth) (λ none. not_both truth (sym left.has ∙ leaves-none table context atom truth fits none left.option left.left)),
)
