-- What stands at a slot of a legal payment.
use Rattle.std.proofs.Common.{◌≡◌, ℕ, List, [], ◌∷◌, true, false, cond, Option, Some, None, refl, ap, ◌∙◌, Ordering, Less, Equal, Greater, nat_cmp, is_eq}
use Rattle.std.specs.Ordering.{ordering_then}
use Rattle.std.specs.Option.{option_cmp}
use Rattle.std.specs.Cmp.Lexicographic.{slice_cmp}
use Rattle.std.proofs.lemmas.Bool.{and_parts, false≢true}
use Rattle.std.proofs.lemmas.Map.Lookups.{exact_unsigned, exact_bytes}
use Rattle.key_table.specs.declared.slot.Slot.{Slot}
use Rattle.key_table.specs.Slots.{slot_cmp, at}
use Rattle.key_table.specs.Tables.{Table, datum_fits}
use Rattle.key_table.specs.Payments.{Entries, value_of, is_legal}
use Rattle.key_table.specs.Options.{is_option}

then-equal : (o p : Ordering) → ordering_then o p ≡ Equal → (o ≡ Equal) × (p ≡ Equal)
then-equal Less p e = cc
then-equal Equal p e = (refl, e)
then-equal Greater p e = cc

same_sub : (a b : Option (List ℕ)) → option_cmp (slice_cmp nat_cmp) a b ≡ Equal → a ≡ b
same_sub None None e = refl
same_sub None (Some y) e = cc
same_sub (Some x) None e = cc
same_sub (Some x) (Some y) e = ap (λ t. Some t) (exact_bytes x y e)

-- slots of one place are equal
pub same_slot : (s t : Slot) → slot_cmp s t ≡ Equal → s ≡ t
same_slot s t e =
    let both = then-equal (nat_cmp s.key t.key) (option_cmp (slice_cmp nat_cmp) s.sub t.sub) e in
    let key = exact_unsigned s.key t.key both.0 in
    let sub = same_sub s.sub t.sub both.1 in
    ap (λ k. at k s.sub) key ∙ ap (λ u. at t.key u) sub

is-equal : (o : Ordering) → is_eq o ≡ true → o ≡ Equal
is-equal Less h = absurd (false≢true h)
is-equal Equal h = refl
is-equal Greater h = absurd (false≢true h)

pub legal_option : (table : Table) (es : Entries) (slot : Slot) → is_legal table es ≡ true → is_option table slot (value_of slot es) ≡ true
legal_option table [] slot legal = refl
legal_option table (e ∷ es) slot legal =
    let parts = and_parts (datum_fits table e.0 e.1) (is_legal table es) legal in
    elim (is_eq (slot_cmp slot e.0)) as (λ b. is_eq (slot_cmp slot e.0) ≡ b → is_option table slot (cond b (Some e.1) (value_of slot es)) ≡ true) [
      | true ↦ (λ is. ap (λ s. datum_fits table s e.1) (same_slot slot e.0 (is-equal _ is)) ∙ parts.0)
      | false ↦ (λ other. legal_option table es slot parts.1)
    ] refl
