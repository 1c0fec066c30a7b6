-- What is written for a payment has no number with a fraction, and its keys go on one by one.
use Rattle.std.proofs.Common.{◌≡◌, ℕ, zero, suc, ◌+◌, List, [], ◌∷◌, length, Bool, true, false, cond, ◌||◌, Option, Some, None, option_map, String, BTreeMap, pos, negsuc, refl, ap, sym, ◌∙◌, Ordering, Less, Equal, Greater, nat_cmp, add-one}
use Rattle.std.specs.declared.alloc.Global.{Global}
use Rattle.std.specs.Ordering.{match_ordering}
use Rattle.std.specs.Cmp.Lexicographic.{slice_cmp}
use Rattle.std.proofs.lemmas.Bool.{cond_both, or_from, or_parts}
use Rattle.std.proofs.lemmas.List.{nil_from_length}
use Rattle.serde_json.specs.Data.{Data, object, Members, no_members, member, put}
use Rattle.serde_json.specs.Written.{has_float, members_have_float}
use Rattle.serde_json.specs.View.{view, members_view}
use Rattle.serde_json.specs.declared.value.Value.{Value, Object}
use Rattle.serde_json.proofs.Views.{view-Object}
use Rattle.key_table.specs.declared.slot.Datum.{Datum}
use Rattle.key_table.specs.declared.slot.Datum.TheVariants.{Variant, Number, Text}
use Rattle.key_table.specs.Slots.{at}
use Rattle.key_table.specs.Payments.{Entries, value_of, under}
use Rattle.key_table.specs.Tables.{Table, name_at, kind_at, variants_at}
use Rattle.payment_reader.specs.Written.{datum_data, text_added, texts_of, object_of, is_metadata, data_at, with_field, fields_of, payment_data}

-- ---- the code's objects

some_object : (es : List (String Global × Value)) → (length es ≡ 0 → ⊥) → Some (object (members_view es)) ≡ object_of (members_view es)
some_object [] some = absurd (some refl)
some_object (e ∷ es) some = refl

pub object_of-view : (m : BTreeMap (String Global) Value) (ms : Members) → members_view m.entries ≡ ms → (length m.entries ≡ 0 → ⊥) → Some (view (Object m)) ≡ object_of ms
object_of-view m ms is some = rw (view-Object m) (some_object m.entries some ∙ ap object_of is)

pub fields_more : (key : ℕ) (table : Table) (es : Entries) → fields_of (key + 1) table es ≡ with_field (name_at key table) (data_at key table es) (fields_of key table es)
unfolding fields_of
fields_more key table es = rw add-one

pub fields_none : (table : Table) (es : Entries) → fields_of 0 table es ≡ no_members
unfolding fields_of
fields_none table es = refl

-- without entries no key has a field
none_at : (key : ℕ) (table : Table) → data_at key table [] ≡ None
none_at key table = let P : Option Data → Type 0 = λ o. o ≡ None in cond_both (is_metadata (kind_at key table)) None None P (λ meta. refl) (λ other. refl)

with_field-none : (name : Option (List ℕ)) (ms : Members) → with_field name None ms ≡ ms
with_field-none None ms = refl
with_field-none (Some name) ms = refl

pub fields_of-nil : (n : ℕ) (table : Table) → fields_of n table [] ≡ no_members
unfolding fields_of
fields_of-nil zero table = refl
fields_of-nil (suc key) table = ap (λ o. with_field (name_at key table) o (fields_of key table [])) (none_at key table) ∙ with_field-none (name_at key table) (fields_of key table []) ∙ fields_of-nil key table

pub empty_data : (m : BTreeMap (String Global) Value) (table : Table) (es : Entries) → m.entries ≡ [] → length es ≡ 0 → view (Object m) ≡ payment_data table es
empty_data m table es is none =
    view-Object m
    ∙ ap (λ (xs : List (String Global × Value)). object (members_view xs)) is
    ∙ ap object (sym (fields_of-nil (length table) table))
    ∙ ap (payment_data table) (sym (nil_from_length es none))

-- ---- no number has a fraction

has_float-datum : (names : List (List ℕ)) (d : Datum) → has_float (datum_data names d) ≡ false
has_float-datum names (Variant n) = refl
has_float-datum names (Number (pos n)) = refl
has_float-datum names (Number (negsuc n)) = refl
has_float-datum names (Text t) = refl

has_float-text : (s : Option (List ℕ)) (d : Datum) (ms : Members) → members_have_float ms ≡ false → members_have_float (text_added member s d ms) ≡ false
has_float-text None d ms h = h
has_float-text (Some name) (Variant n) ms h = h
has_float-text (Some name) (Number z) ms h = h
has_float-text (Some name) (Text t) ms h = h

has_float-texts : (es : Entries) → members_have_float (texts_of es) ≡ false
has_float-texts [] = refl
has_float-texts (e ∷ es) = has_float-text e.0.sub e.1 (texts_of es) (has_float-texts es)

-- a value that is there has no fraction
abbrev IsWhole : Option Data → Type 0
IsWhole o = (d : Data) → o ≡ Some d → has_float d ≡ false

whole-object : (ms : Members) → members_have_float ms ≡ false → IsWhole (object_of ms)
whole-object no_members h d is = let no : ⊥ = cc in absurd no
whole-object (member name e ms) h d is = let same : object (member name e ms) ≡ d = cc in ap has_float (sym same) ∙ h

whole-datum : (names : List (List ℕ)) (o : Option Datum) → IsWhole (option_map (datum_data names) o)
whole-datum names None d is = let no : ⊥ = cc in absurd no
whole-datum names (Some datum) d is = let same : datum_data names datum ≡ d = cc in ap has_float (sym same) ∙ has_float-datum names datum

whole-cond : (b : Bool) (x y : Option Data) → IsWhole x → IsWhole y → IsWhole (cond b x y)
whole-cond true x y p q = p
whole-cond false x y p q = q

whole-data : (key : ℕ) (table : Table) (es : Entries) → IsWhole (data_at key table es)
whole-data key table es = whole-cond (is_metadata (kind_at key table)) (object_of (texts_of (under key es))) (option_map (datum_data (variants_at key table)) (value_of (at key None) es))
    (whole-object (texts_of (under key es)) (has_float-texts (under key es))) (whole-datum (variants_at key table) (value_of (at key None) es))

match-false : (o : Ordering) (x y z : Members) → members_have_float x ≡ false → members_have_float y ≡ false → members_have_float z ≡ false → members_have_float (match_ordering o x y z) ≡ false
match-false Less x y z p q r = p
match-false Equal x y z p q r = q
match-false Greater x y z p q r = r

has_float-put : (k : List ℕ) (d : Data) (ms : Members) → has_float d ≡ false → members_have_float ms ≡ false → members_have_float (put k d ms) ≡ false
has_float-put k d no_members p q = or_from (has_float d) false p refl
has_float-put k d (member l e ms) p q =
    let parts = or_parts (has_float e) (members_have_float ms) q in
    match-false (slice_cmp nat_cmp k l) (member k d (member l e ms)) (member l d ms) (member l e (put k d ms))
    (or_from (has_float d) (has_float e || members_have_float ms) p q) (or_from (has_float d) (members_have_float ms) p parts.1) (or_from (has_float e) (members_have_float (put k d ms)) parts.0 (has_float-put k d ms p parts.1))

has_float-field : (name : Option (List ℕ)) (o : Option Data) (ms : Members) → IsWhole o → members_have_float ms ≡ false → members_have_float (with_field name o ms) ≡ false
has_float-field None o ms w h = h
has_float-field (Some name) None ms w h = h
has_float-field (Some name) (Some d) ms w h = has_float-put name d ms (w d refl) h

has_float-fields : (n : ℕ) (table : Table) (es : Entries) → members_have_float (fields_of n table es) ≡ false
unfolding fields_of
has_float-fields zero table es = refl
has_float-fields (suc key) table es = has_float-field (name_at key table) (data_at key table es) (fields_of key table es) (whole-data key table es) (has_float-fields key table es)

pub has_float-payment : (table : Table) (es : Entries) → has_float (payment_data table es) ≡ false
has_float-payment table es = has_float-fields (length table) table es
