-- Assumptions by the numbers of their atoms.
use Rattle.std.specs.Prelude.{List, [], ◌∷◌, Bool, false, Option, Some, None, slice_get}
use Rattle.std.specs.List.{filter}
use Rattle.std.specs.Ordering.{is_eq}
use Rattle.key_table.specs.declared.slot.Slot.{Slot}
use Rattle.key_table.specs.Slots.{slot_cmp}
use Rattle.std.specs.Option.{option_map_or}
use Rattle.key_table.specs.declared.atom.Atom.{Atom}
use Rattle.key_table.specs.Contexts.{Assumption, Context, assume}
use Rattle.contradiction_checker.specs.declared.options.Assumed.{Assumed}
use Rattle.contradiction_checker.specs.declared.options.Question.{Question}
use Rattle.contradiction_checker.specs.declared.premises.Premises.{Premises}

-- with an assumption in front, where there is an atom
abbrev pub with_assumed : Option Atom → Bool → Context → Context
with_assumed None truth context = context
with_assumed (Some atom) truth context = assume atom truth ∷ context

-- The context that assumptions by number are. A number that names no atom adds nothing.
abbrev pub context_of : List Atom → List Assumed → Context
context_of atoms [] = []
context_of atoms (a ∷ assumed) = with_assumed (slice_get atoms a.atom) a.truth (context_of atoms assumed)

-- what a test says of an assumption by number, or else the given answer
abbrev pub by_number : List Atom → (Assumption → Bool) → Bool → Assumed → Bool
by_number atoms test otherwise a = option_map_or (λ atom. test (assume atom a.truth)) (slice_get atoms a.atom) otherwise

-- whether an assumption by number is on a slot
abbrev pub is_on : List Atom → Slot → Assumed → Bool
is_on atoms slot a = by_number atoms (λ e. is_eq (slot_cmp slot e.atom.slot)) false a

-- the assumptions on a slot
abbrev pub assumed_on : List Atom → Slot → List Assumed → List Assumed
assumed_on atoms slot assumed = filter (is_on atoms slot) assumed

-- all truths that are asked for
abbrev pub asked_of : Question → Context
asked_of q = assume q.atom.now q.truth ∷ context_of q.atoms.now q.assumed.now

-- the context that premises are
abbrev pub premises_of : Premises → Context
premises_of p = context_of p.atoms.now p.trail.now.assumed.items
