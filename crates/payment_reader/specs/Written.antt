-- What is written for a payment: an object with the value of each key that has something, names in ascending order of bytes.
use Rattle.std.specs.Prelude.{◌≤◌, ◌==◌, ℕ, zero, suc, List, [], ◌∷◌, length, count_by, Bool, true, false, if◌then◌else◌, Option, Some, None, option_map, unwrap_or, slice_get}
use Rattle.serde_json.specs.Data.{Data, number, string, object, Members, no_members, member, put}
use Rattle.serde_json.specs.Find.{of_integer}
use Rattle.serde_json.specs.Written.{compact_text}
use Rattle.key_table.specs.declared.key.Kind.{Kind}
use Rattle.key_table.specs.declared.key.Kind.TheVariants as kind
use Rattle.key_table.specs.declared.slot.Slot.{Slot}
use Rattle.key_table.specs.declared.slot.Datum.{Datum}
use Rattle.key_table.specs.declared.slot.Datum.TheVariants.{Variant, Number, Text}
use Rattle.key_table.specs.Slots.{at}
use Rattle.key_table.specs.Payments.{Entries, value_of, under}
use Rattle.key_table.specs.Tables.{Table, name_at, kind_at, variants_at}

-- a value as JSON, of a key with these variants
abbrev pub datum_data : List (List ℕ) → Datum → Data
datum_data names (Variant n) = string (unwrap_or (slice_get names n) [])
datum_data names (Number z) = number (of_integer z)
datum_data names (Text t) = string t

-- the members with one more for an entry, by a way to add it, where the entry is a text under a sub name
abbrev pub text_added : (List ℕ → Data → Members → Members) → Option (List ℕ) → Datum → Members → Members
text_added add (Some sub) (Text t) ms = add sub (string t) ms
text_added add _ _ ms = ms

-- the texts by sub name, in the order of the entries
abbrev pub texts_of : Entries → Members
texts_of [] = no_members
texts_of (e ∷ es) = text_added member e.0.sub e.1 (texts_of es)

-- an object, where it has members
abbrev pub object_of : Members → Option Data
object_of no_members = None
object_of (member name d ms) = Some (object (member name d ms))

abbrev pub is_metadata : Option Kind → Bool
is_metadata (Some kind.Metadata) = true
is_metadata _ = false

-- what is written for a key, where it has something
abbrev pub data_at : ℕ → Table → Entries → Option Data
data_at key table entries = if is_metadata (kind_at key table) then object_of (texts_of (under key entries)) else option_map (datum_data (variants_at key table)) (value_of (at key None) entries)

-- the members with what is written under a name, where there is something
abbrev pub with_field : Option (List ℕ) → Option Data → Members → Members
with_field (Some name) (Some d) ms = put name d ms
with_field _ _ ms = ms

-- the fields of the first so many keys
unfoldable pub fields_of : ℕ → Table → Entries → Members
fields_of zero table entries = no_members
fields_of (suc key) table entries = with_field (name_at key table) (data_at key table entries) (fields_of key table entries)

abbrev pub payment_data : Table → Entries → Data
payment_data table entries = object (fields_of (length table) table entries)

-- the text of a payment
abbrev pub payment_text : Table → Entries → List ℕ
payment_text table entries = compact_text (payment_data table entries)

-- No key has more than 4,096 sub names.
abbrev pub HasFewSubs : Entries → Type 0
HasFewSubs entries = (key : ℕ) → count_by (λ (e : Slot × Datum). e.0.key == key) entries ≤ 4096
