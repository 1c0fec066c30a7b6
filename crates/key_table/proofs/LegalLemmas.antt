-- When the entries of a payment fit.
use Rattle.std.proofs.Common.{◌≡◌, ℕ, suc, List, [], ◌∷◌, Bool, true, Some, refl, ap, sym, ◌∙◌, Ordering, Less, Equal, Greater}
use Rattle.std.specs.Ordering.{match_ordering}
use Rattle.std.specs.List.{list_all, slice_get}
use Rattle.std.specs.Map.{keys_of}
use Rattle.std.specs.Cmp.{eq_by_cmp_equiv}
use Rattle.std.proofs.lemmas.Bool.{and_parts, and_from}
use Rattle.std.proofs.lemmas.Map.Entries.{lookup_from_place}
use Rattle.std.proofs.lemmas.Map.Keys.{IsDistinct-from_sorted}
use Rattle.key_table.specs.declared.slot.Slot.{Slot}
use Rattle.key_table.specs.declared.slot.Datum.{Datum}
use Rattle.key_table.specs.Slots.{slot_cmp}
use Rattle.key_table.specs.Tables.{datum_fits}
use Rattle.key_table.specs.Payments.{with_value, is_legal, PutLegalLaw, FoundLegalLaw}
use Rattle.key_table.proofs.OptionLemmas.{same_slot}
use Rattle.key_table.proofs.Sorted.{slot_cmp_total}

pub put_legal : PutLegalLaw
put_legal table [] s v fits legal = and_from (datum_fits table s v) true fits refl
put_legal table (e ∷ es) s v fits legal =
    let parts = and_parts (datum_fits table e.0 e.1) (is_legal table es) legal in
    let P : Ordering → Type 0 = λ o. is_legal table (match_ordering o ((s, v) ∷ e ∷ es) ((e.0, v) ∷ es) (e ∷ with_value es s v)) ≡ true in
    let step : (o : Ordering) → slot_cmp s e.0 ≡ o → P o =
    λ o. elim o as (λ o. slot_cmp s e.0 ≡ o → P o) [
      | Less ↦ (λ is. and_from (datum_fits table s v) (is_legal table (e ∷ es)) fits legal)
      | Equal ↦ (λ is. and_from (datum_fits table e.0 v) (is_legal table es) (ap (λ t. datum_fits table t v) (sym (same_slot s e.0 is)) ∙ fits) parts.1)
      | Greater ↦ (λ is. and_from (datum_fits table e.0 e.1) (is_legal table (with_value es s v)) parts.0 (put_legal table es s v fits parts.1))
    ] in
    step (slot_cmp s e.0) refl

-- a test that passes at each place passes on all
all_from_places : {X : Type 0} (p : X → Bool) (xs : List X) → ((i : ℕ) (x : X) → slice_get xs i ≡ Some x → p x ≡ true) → list_all p xs ≡ true
all_from_places p [] h = refl
all_from_places p (x ∷ xs) h = and_from (p x) (list_all p xs) (h 0 x refl) (all_from_places p xs (λ i y at. h (suc i) y at))

pub found_legal : FoundLegalLaw
found_legal table es ascending found =
    let alike = eq_by_cmp_equiv slot_cmp_total in
    let apart = IsDistinct-from_sorted slot_cmp (keys_of es) ascending in
    all_from_places (λ (e : Slot × Datum). datum_fits table e.0 e.1) es (λ i e at. found e.0 e.1 (lookup_from_place alike es i e.0 e.1 apart at))
