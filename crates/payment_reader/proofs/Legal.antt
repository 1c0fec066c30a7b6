-- What is read is legal.
use Rattle.std.proofs.Common.{◌≡◌, ℕ, List, [], length, true, false, Option, Some, None, Result, Ok, IfOk, refl}
use Rattle.std.specs.Prelude.{nat_le, is_some, bytes_eq, ◌&&◌, position}
use Rattle.std.specs.Option.{option_map_or}
use Rattle.std.proofs.lemmas.Bool.{cond_both, lt-ltb}
use Rattle.std.proofs.lemmas.List.Quantifiers.{position-Some}
use Rattle.std.proofs.lemmas.Result.{IfOk-at_ok}
use Rattle.serde_json.specs.Data.{Data, Members, no_members, member}
use Rattle.serde_json.specs.Find.{as_null, as_str, as_object}
use Rattle.key_table.specs.declared.key.Kind.{Kind}
use Rattle.key_table.specs.declared.key.Kind.TheVariants as kind
use Rattle.key_table.specs.declared.slot.Slot.{Slot}
use Rattle.key_table.specs.declared.slot.Datum.{Datum}
use Rattle.key_table.specs.declared.slot.Datum.TheVariants.{Variant, Number, Text}
use Rattle.key_table.specs.Slots.{at}
use Rattle.key_table.specs.Tables.{Domain, variants, bounds, text, metadata, Table, names_of, domain_at, find_variant, has_sub, allows, slot_fits, datum_fits}
use Rattle.key_table.specs.Payments.{Entries, is_legal}
use Rattle.key_table.proofs.AnswerLemmas.{then_known, then_any, then_some, then_true}
use Rattle.key_table.proofs.LegalLemmas.{put_legal}
use Rattle.json_shape.specs.declared.error.ShapeError.{ShapeError}
use Rattle.json_shape.specs.Paths.{name_step, fault}
use Rattle.json_shape.specs.Shapes.{json_of, whole_of}
use Rattle.payment_reader.specs.Reading.{members_put, fitting_put, variant_put, text_put, sub_put, members_count, value_put, kind_named, field_put, payment_in, payment_or_fault}

-- a variant that is found fits its key
found_fits : (o : Option Domain) (word : List ℕ) (n : ℕ) → position (λ m. bytes_eq word m) (option_map_or names_of o []) ≡ Some n → option_map_or (λ domain. has_sub domain None && allows domain (Variant n)) o false ≡ true
found_fits None word n is = let no : ⊥ = cc in absurd no
found_fits (Some (variants names)) word n is = lt-ltb n (length names) (position-Some (λ m. bytes_eq word m) names n [] is).0
found_fits (Some (bounds least greatest)) word n is = let no : ⊥ = cc in absurd no
found_fits (Some text) word n is = let no : ⊥ = cc in absurd no
found_fits (Some metadata) word n is = let no : ⊥ = cc in absurd no

module _ (table : Table) where
  abbrev IsLegal : Entries → Type 0
  IsLegal es = is_legal table es ≡ true

  module _ (p : Entries) (legal : IsLegal p) where
    fitting_legal : (unfit : ShapeError) (slot : Slot) (datum : Datum) → IfOk (fitting_put table unfit slot datum p) IsLegal
    fitting_legal unfit slot datum = then_true IsLegal unfit (datum_fits table slot datum) _ (λ fits. put_legal table p slot datum fits legal)

    variant_legal : (key : ℕ) (path : List ℕ) (d : Data) → IfOk (variant_put table key path d p) IsLegal
    variant_legal key path d =
        then_some IsLegal (fault 3 path) (as_str d) _
        (λ word there. then_some IsLegal (fault 7 path) (find_variant key word table) _
        (λ n found. put_legal table p (at key None) (Variant n) (found_fits (domain_at key table) word n found) legal))

    text_legal : (slot : Slot) (path : List ℕ) (d : Data) → IfOk (text_put table slot path d p) IsLegal
    text_legal slot path d = then_some IsLegal (fault 3 path) (as_str d) _ (λ t there. fitting_legal (fault 9 path) slot (Text t))

    sub_legal : (key : ℕ) (path name : List ℕ) (d : Data) → IfOk (sub_put table key path name d p) IsLegal
    sub_legal key path name d =
        let P : Result Entries ShapeError → Type 0 = λ r. IfOk r IsLegal in
        then_true IsLegal (fault 9 (name_step path name)) (slot_fits table (at key (Some name))) _
        (λ fits. cond_both (is_some (as_null d)) _ _ P (λ null. legal) (λ some. text_legal (at key (Some name)) (name_step path name) d))

  members_legal : (put : List ℕ → Data → Entries → Result Entries ShapeError) → ((p : Entries) → IsLegal p → (name : List ℕ) (d : Data) → IfOk (put name d p) IsLegal)
      → (ms : Members) (p : Entries) → IsLegal p → IfOk (members_put put ms p) IsLegal
  unfolding members_put
  members_legal put h no_members p legal = legal
  members_legal put h (member name d ms) p legal = then_known IsLegal IsLegal (put name d p) (members_put put ms) (h p legal name d) (members_legal put h ms)

  value_legal : (p : Entries) → IsLegal p → (key : ℕ) (k : Kind) (path : List ℕ) (d : Data) → IfOk (value_put table key k path d p) IsLegal
  value_legal p legal key kind.Enum path d = variant_legal p legal key path d
  value_legal p legal key kind.Number path d = then_any IsLegal (whole_of path d) _ (λ z. fitting_legal p legal (fault 8 path) (at key None) (Number z))
  value_legal p legal key kind.Text path d = text_legal p legal (at key None) path d
  value_legal p legal key kind.Metadata path d =
      then_some IsLegal (fault 3 path) (as_object d) _
      (λ ms there. then_true IsLegal (fault 5 path) (nat_le (members_count ms) 4096) _
      (λ few. members_legal (sub_put table key path) (λ q ok. sub_legal q ok key path) ms p legal))

  field_legal : (p : Entries) → IsLegal p → (name : List ℕ) (d : Data) → IfOk (field_put table name d p) IsLegal
  field_legal p legal name d =
      let P : Result Entries ShapeError → Type 0 = λ r. IfOk r IsLegal in
      then_some IsLegal (fault 6 (name_step [] name)) (kind_named name table) _
      (λ found there. cond_both (is_some (as_null d)) _ _ P (λ null. legal) (λ some. value_legal p legal found.0 found.1 (name_step [] name) d))

  payment_legal : (bytes : List ℕ) → IfOk (payment_or_fault table bytes) IsLegal
  payment_legal bytes =
      then_any IsLegal (json_of bytes) (payment_in table)
      (λ d. then_some IsLegal (fault 3 []) (as_object d) _ (λ ms there. members_legal (field_put table) field_legal ms [] refl))

  pub read_is_legal : (bytes : List ℕ) (p : Entries) → payment_or_fault table bytes ≡ Ok p → is_legal table p ≡ true
  read_is_legal bytes p is = IfOk-at_ok IsLegal is (payment_legal bytes)
