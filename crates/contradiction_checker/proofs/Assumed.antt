-- Assumptions by number against the context that they are.
use Rattle.std.proofs.Common.{◌≡◌, List, [], ◌∷◌, Bool, true, false, ◌&&◌, ◌||◌, Option, Some, None, cond, refl, ap, ◌∙◌, slice_get, option_map}
use Rattle.std.specs.List.{list_any, list_all}
use Rattle.std.specs.Ordering.{is_eq}
use Rattle.key_table.specs.declared.slot.Slot.{Slot}
use Rattle.key_table.specs.Slots.{slot_cmp}
use Rattle.key_table.specs.Tables.{Table, Domain, domain_at}
use Rattle.contradiction_checker.specs.declared.options.Values.{Values}
use Rattle.contradiction_checker.specs.Tries.{values_of, some_option, on_slot, leaves}
use Rattle.std.specs.Option.{option_map_or}
use Rattle.key_table.specs.declared.atom.Atom.{Atom}
use Rattle.key_table.specs.Contexts.{Assumption, Context, assume}
use Rattle.contradiction_checker.specs.declared.options.Assumed.{Assumed}
use Rattle.contradiction_checker.specs.Assumed.{with_assumed, context_of, by_number, assumed_on}

all_with : (f : Assumption → Bool) (o : Option Atom) (truth : Bool) (context : Context) → (option_map_or (λ atom. f (assume atom truth)) o true && list_all f context) ≡ list_all f (with_assumed o truth context)
all_with f None truth context = refl
all_with f (Some atom) truth context = refl

any_with : (f : Assumption → Bool) (o : Option Atom) (truth : Bool) (context : Context) → (option_map_or (λ atom. f (assume atom truth)) o false || list_any f context) ≡ list_any f (with_assumed o truth context)
any_with f None truth context = refl
any_with f (Some atom) truth context = refl

pub all_assumed : (atoms : List Atom) (f : Assumption → Bool) (assumed : List Assumed) → list_all (by_number atoms f true) assumed ≡ list_all f (context_of atoms assumed)
all_assumed atoms f [] = refl
all_assumed atoms f (a ∷ assumed) = rw (all_assumed atoms f assumed) (all_with f (slice_get atoms a.atom) a.truth (context_of atoms assumed))

pub any_assumed : (atoms : List Atom) (f : Assumption → Bool) (assumed : List Assumed) → list_any (by_number atoms f false) assumed ≡ list_any f (context_of atoms assumed)
any_assumed atoms f [] = refl
any_assumed atoms f (a ∷ assumed) = rw (any_assumed atoms f assumed) (any_with f (slice_get atoms a.atom) a.truth (context_of atoms assumed))

-- one more assumption by number, on the slot or not
one : (atoms : List Atom) (slot : Slot) (a : Assumed) (kept : List Assumed) (context : Context) → context_of atoms kept ≡ on_slot slot context → (o : Option Atom) → slice_get atoms a.atom ≡ o → context_of atoms (cond (option_map_or (λ (atom : Atom). is_eq (slot_cmp slot atom.slot)) o false) (a ∷ kept) kept) ≡ on_slot slot (with_assumed o a.truth context)
one atoms slot a kept context same None is = same
one atoms slot a kept context same (Some atom) is =
    elim (is_eq (slot_cmp slot atom.slot)) as (λ b. context_of atoms (cond b (a ∷ kept) kept) ≡ cond b (assume atom a.truth ∷ on_slot slot context) (on_slot slot context)) [
      | true ↦ ap (λ (o : Option Atom). with_assumed o a.truth (context_of atoms kept)) is ∙ ap (λ (c : Context). assume atom a.truth ∷ c) same
      | false ↦ same
    ]

-- those on a slot are the context's on the slot
pub assumed_on_slot : (atoms : List Atom) (slot : Slot) (assumed : List Assumed) → context_of atoms (assumed_on atoms slot assumed) ≡ on_slot slot (context_of atoms assumed)
assumed_on_slot atoms slot [] = refl
assumed_on_slot atoms slot (a ∷ assumed) = one atoms slot a (assumed_on atoms slot assumed) (context_of atoms assumed) (assumed_on_slot atoms slot assumed) (slice_get atoms a.atom) refl

by_values : (values : Values) (asked : Context) (o : Option Domain) → Some values ≡ option_map values_of o → some_option values asked ≡ option_map_or (λ domain. some_option (values_of domain) asked) o false
by_values values asked None is = cc
by_values values asked (Some domain) is = let e : values ≡ values_of domain = cc in ap (λ (v : Values). some_option v asked) e

-- what is asked of the assumptions on the atom's slot is asked of the context
pub leaves_by_number : (table : Table) (atoms : List Atom) (assumed mine : List Assumed) (atom : Atom) (truth : Bool) (values : Values) → mine ≡ assumed_on atoms atom.slot assumed → Some values ≡ option_map values_of (domain_at atom.slot.key table) → some_option values (assume atom truth ∷ context_of atoms mine) ≡ leaves table (context_of atoms assumed) atom truth
leaves_by_number table atoms assumed mine atom truth values gathered found =
    let slot = ap (λ (m : List Assumed). context_of atoms m) gathered ∙ assumed_on_slot atoms atom.slot assumed in
    by_values values (assume atom truth ∷ context_of atoms mine) (domain_at atom.slot.key table) found ∙ ap (λ (c : Context). option_map_or (λ domain. some_option (values_of domain) (assume atom truth ∷ c)) (domain_at atom.slot.key table) false) slot
