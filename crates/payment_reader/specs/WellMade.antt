-- A table and a payment are as every one is that a call gives, and the numbers of the payment have 64 bits.
use Rattle.std.specs.Prelude.{◌≡◌, ℕ, ◌<◌, length, true, false, Option, Some, None}
use Rattle.serde_json.specs.Find.{as_i64, of_integer}
use Rattle.key_table.specs.declared.slot.Datum.{Datum}
use Rattle.key_table.specs.declared.slot.Datum.TheVariants.{Number}
use Rattle.key_table.specs.Slots.{at}
use Rattle.key_table.specs.Tables.{Table, kind_at, is_table}
use Rattle.key_table.specs.Payments.{Entries, AreAscending, value_of}
use Rattle.payment_reader.specs.Written.{is_metadata}

-- A number is one of 64 bits.
abbrev pub HasBits : Option Datum → Type 0
HasBits (Some (Number z)) = as_i64 (of_integer z) ≡ Some z
HasBits _ = Unit {0}

-- What stands under a key with no sub name, if it is a number, is one of 64 bits.
abbrev pub HasBitsAt : ℕ → Table → Entries → Type 0
HasBitsAt key table entries = is_metadata (kind_at key table) ≡ false → HasBits (value_of (at key None) entries)

pub record IsWellMade (table : Table) (entries : Entries) : Type 0 where
  pub made : is_table table ≡ true
  pub ascending : AreAscending entries
  pub bits : (key : ℕ) → key < length table → HasBitsAt key table entries
