-- What contexts force, and the options that they leave.
use Rattle.std.proofs.Common.{◌≡◌, zero, suc, List, [], ◌∷◌, Bool, true, false, cond, Option, refl, ap, ◌∙◌, sym, subst, arith}
use Rattle.std.specs.List.{list_all, Contains}
use Rattle.std.specs.Bool.{beq}
use Rattle.std.specs.Cmp.{eq_by_cmp_equiv}
use Rattle.std.specs.Ordering.{is_eq}
use Rattle.std.proofs.lemmas.Bool.{and_parts, and_from, true≢false, false≢true}
use Rattle.key_table.specs.declared.atom.Atom.{Atom}
use Rattle.key_table.specs.declared.atom.Verdict3.TheVariants.{Entailed, Refuted, Undecided}
use Rattle.key_table.specs.declared.slot.Slot.{Slot}
use Rattle.key_table.specs.declared.slot.Datum.{Datum}
use Rattle.key_table.specs.Slots.{slot_cmp}
use Rattle.key_table.specs.Tables.{Table}
use Rattle.key_table.specs.Options.{is_option, holds_of}
use Rattle.key_table.specs.OptionSets.{HasOption, kept}
use Rattle.key_table.specs.Contexts.{Context, assume, meets_on, meets, left, IsLeft, Forces, AssumedLaw, MoreLaw, VerdictLaw, LeftLaw}
use Rattle.key_table.proofs.Sorted.{slot_cmp_total}

-- what a test says of all it says of each
each_of : {X : Type 0} (p : X → Bool) (xs : List X) (x : X) → list_all p xs ≡ true → Contains xs x → p x ≡ true
each_of p [] x h at = absurd (omega (arith, at.1))
each_of p (y ∷ ys) x h (zero, within, is) = subst (λ z. p z ≡ true) is (and_parts (p y) (list_all p ys) h).0
each_of p (y ∷ ys) x h (suc k, within, is) = each_of p ys x (and_parts (p y) (list_all p ys) h).1 (k, omega arith, is)

all_of : {X : Type 0} (p : X → Bool) (xs : List X) → ((x : X) → Contains xs x → p x ≡ true) → list_all p xs ≡ true
all_of p [] h = refl
all_of p (x ∷ xs) h = and_from (p x) (list_all p xs) (h x (zero, omega arith, refl)) (all_of p xs (λ y at. h y (suc at.0, (let w = at.1 in omega arith), at.2)))

pub same_truth : (b truth : Bool) → beq b truth ≡ true → b ≡ truth
same_truth true true h = refl
same_truth true false h = absurd (false≢true h)
same_truth false true h = absurd (false≢true h)
same_truth false false h = refl

same_slot : (s : Slot) → is_eq (slot_cmp s s) ≡ true
same_slot s = (eq_by_cmp_equiv slot_cmp_total).refl s

pub more : MoreLaw
more table c d atom truth within forces option there =
    forces option (record { legal = there.legal; met = all_of (meets_on atom.slot option) c (λ a at. each_of (meets_on atom.slot option) d a there.met (within a at)) })

pub assumed : AssumedLaw
assumed table c atom truth at option there =
    let here = each_of (meets_on atom.slot option) c (assume atom truth) there.met at in
    same_truth (holds_of atom option) truth (sym (ap (λ b. cond b (beq (holds_of atom option) truth) true) (same_slot atom.slot)) ∙ here)

in_left : (table : Table) (context : Context) (slot : Slot) (o : Option Datum) → IsLeft table context slot o → left table context slot o ≡ true
unfolding left
in_left table context slot o there = and_from _ _ there.legal there.met

from_left : (table : Table) (context : Context) (slot : Slot) (o : Option Datum) → left table context slot o ≡ true → IsLeft table context slot o
unfolding left
from_left table context slot o is =
    let parts = and_parts (is_option table slot o) (meets context slot o) is in
    record { legal = parts.0; met = parts.1 }

pub left_is : LeftLaw
left_is table context slot o = (from_left table context slot o, in_left table context slot o)

-- an option on which the atom has a truth is no option on which it has the other
against : (table : Table) (context : Context) (atom : Atom) (truth other : Bool) → (truth ≡ other → ⊥) → HasOption (kept atom truth (left table context atom.slot)) → ¬ (Forces table context atom other)
against table context atom truth other apart one forces =
    let parts = and_parts (left table context atom.slot one.0) (beq (holds_of atom one.0) truth) one.1 in
    apart (sym (same_truth (holds_of atom one.0) truth parts.1) ∙ forces one.0 (from_left table context atom.slot one.0 parts.0))

pub verdict : VerdictLaw
verdict table context atom Refuted filled h = λ o there. h o (in_left table context atom.slot o there)
verdict table context atom Entailed filled h = (
  λ o there. h o (in_left table context atom.slot o there),
  λ refutes. true≢false (sym (h filled.0 filled.1) ∙ refutes filled.0 (from_left table context atom.slot filled.0 filled.1)),
)
verdict table context atom Undecided filled h =
    (against table context atom false true false≢true h.1, against table context atom true false true≢false h.0)
