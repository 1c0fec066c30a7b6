-- The payment that JSON says, or its first fault. The members of an object are visited in ascending order of their names.
use Rattle.std.specs.Prelude.{ℕ, suc, nat_le, List, [], is_some, if◌then◌else◌, Option, Some, None, option_map, option_and_then, Result, Ok, Err}
use Rattle.serde_json.specs.Data.{Data, Members, no_members, member}
use Rattle.serde_json.specs.Find.{as_null, as_str, as_object}
use Rattle.key_table.specs.declared.key.Kind.{Kind}
use Rattle.key_table.specs.declared.key.Kind.TheVariants as kind
use Rattle.key_table.specs.declared.slot.Slot.{Slot}
use Rattle.key_table.specs.declared.slot.Datum.{Datum}
use Rattle.key_table.specs.declared.slot.Datum.TheVariants.{Variant, Number, Text}
use Rattle.key_table.specs.Answers.{◌>>=◌, or_fault, provided}
use Rattle.key_table.specs.Slots.{at}
use Rattle.key_table.specs.Payments.{Entries, with_value}
use Rattle.key_table.specs.Tables.{Table, find_key, kind_at, find_variant, slot_fits, datum_fits}
use Rattle.json_shape.specs.declared.error.ShapeError.{ShapeError}
use Rattle.json_shape.specs.Paths.{name_step, fault}
use Rattle.json_shape.specs.Shapes.{json_of, whole_of}
use Rattle.payment_reader.specs.declared.error.PaymentError.{PaymentError}

-- the payment with what each member in turn puts
unfoldable pub members_put : (List ℕ → Data → Entries → Result Entries ShapeError) → Members → Entries → Result Entries ShapeError
members_put put no_members payment = Ok payment
members_put put (member name d ms) payment = put name d payment >>= members_put put ms

-- the payment with a value at a slot, where it fits, and else the fault
abbrev pub fitting_put : Table → ShapeError → Slot → Datum → Entries → Result Entries ShapeError
fitting_put table unfit slot datum payment = provided unfit (datum_fits table slot datum) >>= λ _. Ok (with_value payment slot datum)

-- the payment with the variant of a key that the string at a path names
abbrev pub variant_put : Table → ℕ → List ℕ → Data → Entries → Result Entries ShapeError
variant_put table key path d payment = or_fault (fault 3 path) (as_str d) >>= λ word. or_fault (fault 7 path) (find_variant key word table) >>= λ n. Ok (with_value payment (at key None) (Variant n))

-- the payment with the whole number at a path, which lies within the bounds of its key
abbrev pub number_put : Table → ℕ → List ℕ → Data → Entries → Result Entries ShapeError
number_put table key path d payment = whole_of path d >>= λ z. fitting_put table (fault 8 path) (at key None) (Number z) payment

-- the payment with the string at a path as the text of a slot, which has at most as many bytes as a text may have
abbrev pub text_put : Table → Slot → List ℕ → Data → Entries → Result Entries ShapeError
text_put table slot path d payment = or_fault (fault 3 path) (as_str d) >>= λ t. fitting_put table (fault 9 path) slot (Text t) payment

-- The payment with what a sub name of a metadata key says. The name is judged before its value, and a null puts nothing.
abbrev pub sub_put : Table → ℕ → List ℕ → List ℕ → Data → Entries → Result Entries ShapeError
sub_put table key path name d payment = provided (fault 9 (name_step path name)) (slot_fits table (at key (Some name))) >>= λ _. if is_some (as_null d) then Ok payment else text_put table (at key (Some name)) (name_step path name) d payment

-- the payment with what each sub name in turn says
abbrev pub subs_put : Table → ℕ → List ℕ → Members → Entries → Result Entries ShapeError
subs_put table key path = members_put (sub_put table key path)

-- how many members an object has
abbrev pub members_count : Members → ℕ
members_count no_members = 0
members_count (member name d ms) = suc (members_count ms)

-- the payment with the texts of a metadata key, of which there are at most 4,096
abbrev pub texts_put : Table → ℕ → List ℕ → Data → Entries → Result Entries ShapeError
texts_put table key path d payment = or_fault (fault 3 path) (as_object d) >>= λ ms. provided (fault 5 path) (nat_le (members_count ms) 4096) >>= λ _. subs_put table key path ms payment

-- the payment with what the value of a key says, by the key's kind
abbrev pub value_put : Table → ℕ → Kind → List ℕ → Data → Entries → Result Entries ShapeError
value_put table key kind.Enum path d payment = variant_put table key path d payment
value_put table key kind.Number path d payment = number_put table key path d payment
value_put table key kind.Text path d payment = text_put table (at key None) path d payment
value_put table key kind.Metadata path d payment = texts_put table key path d payment

-- the number and the kind of the key with a name
abbrev pub kind_named : List ℕ → Table → Option (ℕ × Kind)
kind_named name table = option_and_then (λ key. option_map (λ k. (key, k)) (kind_at key table)) (find_key name table)

-- The payment with what a field says. A null puts nothing, and its key is known all the same.
abbrev pub field_put : Table → List ℕ → Data → Entries → Result Entries ShapeError
field_put table name d payment = or_fault (fault 6 (name_step [] name)) (kind_named name table) >>= λ found. if is_some (as_null d) then Ok payment else value_put table found.0 found.1 (name_step [] name) d payment

-- the payment with what each field in turn says
abbrev pub fields_put : Table → Members → Entries → Result Entries ShapeError
fields_put table = members_put (field_put table)

-- the payment that an object says
abbrev pub payment_in : Table → Data → Result Entries ShapeError
payment_in table d = or_fault (fault 3 []) (as_object d) >>= λ ms. fields_put table ms []

-- the payment that a file is, or its first fault
abbrev pub payment_or_fault : Table → List ℕ → Result Entries ShapeError
payment_or_fault table bytes = json_of bytes >>= payment_in table

-- what a fault of the shape is as a fault of a payment
abbrev pub widened : Result Entries ShapeError → Result Entries PaymentError
widened (Ok payment) = Ok payment
widened (Err error) = Err (record { code = error.code; path = error.path })

-- The same, with the fault as one of a payment: 1 NotJson, 3 WrongShape, 4 NotWhole, 5 Limit, 6 UnknownKey, 7 UnknownVariant, 8 OutOfBounds, 9 TextLong.
abbrev pub payment_of : Table → List ℕ → Result Entries PaymentError
payment_of table bytes = widened (payment_or_fault table bytes)
