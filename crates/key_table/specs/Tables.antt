-- Tables of keys. A key or a variant is found by walking the list.
use Rattle.std.specs.Prelude.{ℕ, ℤ, int_le, nat_lt, nat_le, List, [], ◌∷◌, length, map, Bool, true, false, ◌&&◌, bytes_eq, Option, Some, None, option_map, option_and_then, slice_get, position}
use Rattle.std.specs.List.{list_all}
use Rattle.std.specs.Option.{option_map_or}
use Rattle.key_table.specs.declared.key.Kind.{Kind}
use Rattle.key_table.specs.declared.key.Kind.TheVariants as kind
use Rattle.key_table.specs.declared.slot.Slot.{Slot}
use Rattle.key_table.specs.declared.slot.Datum.{Datum}
use Rattle.key_table.specs.declared.slot.Datum.TheVariants.{Variant, Number, Text}
use Rattle.key_table.specs.Names.{are_names}

-- What may stand at a key's slots: one of these variants, a number within these bounds, a text, or texts under sub names.
pub data Domain : Type 0 where
  variants : List (List ℕ) → Domain
  bounds : ℤ → ℤ → Domain
  text : Domain
  metadata : Domain

pub record Key : Type 0 where
  pub name : List ℕ
  pub domain : Domain

abbrev pub Table : Type 0
Table = List Key

abbrev pub kind_of : Domain → Kind
kind_of (variants names) = kind.Enum
kind_of (bounds least greatest) = kind.Number
kind_of text = kind.Text
kind_of metadata = kind.Metadata

-- the names of the keys
abbrev pub names_in : Table → List (List ℕ)
names_in table = map (λ key. key.name) table

-- the number of the key with a name
abbrev pub find_key : List ℕ → Table → Option ℕ
find_key name table = position (λ key. bytes_eq name key.name) table

abbrev pub name_at : ℕ → Table → Option (List ℕ)
name_at key table = option_map (λ k. k.name) (slice_get table key)

abbrev pub domain_at : ℕ → Table → Option Domain
domain_at key table = option_map (λ k. k.domain) (slice_get table key)

abbrev pub kind_at : ℕ → Table → Option Kind
kind_at key table = option_map kind_of (domain_at key table)

abbrev pub names_of : Domain → List (List ℕ)
names_of (variants names) = names
names_of _ = []

-- the variants of a key, none where it is no enum
abbrev pub variants_at : ℕ → Table → List (List ℕ)
variants_at key table = option_map_or names_of (domain_at key table) []

-- the number of the variant with a name
abbrev pub find_variant : ℕ → List ℕ → Table → Option ℕ
find_variant key name table = position (λ n. bytes_eq name n) (variants_at key table)

abbrev pub ends_of : Domain → Option (ℤ × ℤ)
ends_of (bounds least greatest) = Some (least, greatest)
ends_of _ = None

-- the least and the greatest number of a key, where it is a number
abbrev pub bounds_at : ℕ → Table → Option (ℤ × ℤ)
bounds_at key table = option_and_then ends_of (domain_at key table)

-- Whether a key has slots with this sub name: metadata with one of at most 255 bytes, the others without.
abbrev pub has_sub : Domain → Option (List ℕ) → Bool
has_sub metadata (Some sub) = nat_le (length sub) 255
has_sub metadata None = false
has_sub _ (Some sub) = false
has_sub _ None = true

-- whether a key's slots may hold a value
abbrev pub allows : Domain → Datum → Bool
allows (variants names) (Variant n) = nat_lt n (length names)
allows (bounds least greatest) (Number z) = int_le least z && int_le z greatest
allows text (Text t) = nat_le (length t) 1024
allows metadata (Text t) = nat_le (length t) 1024
allows _ _ = false

-- Whether the slot is legal: its key is in the table and has slots with this sub name.
abbrev pub slot_fits : Table → Slot → Bool
slot_fits table slot = option_map_or (λ domain. has_sub domain slot.sub) (domain_at slot.key table) false

-- Whether the slot is legal and the value is legal there.
abbrev pub datum_fits : Table → Slot → Datum → Bool
datum_fits table slot datum = option_map_or (λ domain. has_sub domain slot.sub && allows domain datum) (domain_at slot.key table) false

-- whether the variants of a key are at most 1,024 names, each once, and its bounds are in order
abbrev pub is_domain : Domain → Bool
is_domain (variants names) = nat_le (length names) 1024 && are_names names
is_domain (bounds least greatest) = int_le least greatest
is_domain text = true
is_domain metadata = true

-- Whether these are at most 256 keys, whose names are names, each once, and whose variants and bounds are well made. Every table that a call gives is such a one.
unfoldable pub is_table : Table → Bool
is_table table = nat_le (length table) 256 && are_names (names_in table) && list_all (λ key. is_domain key.domain) table
