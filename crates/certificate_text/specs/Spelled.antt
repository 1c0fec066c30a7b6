-- What a field spells: a number, bytes in hexadecimal, a word. Each value has one spelling, which is its text.
use Rattle.std.specs.Prelude.{ℕ, ℤ, nat_lt, List, Bool, true, ◌&&◌, bytes_eq, Option, Some, None, option_and_then, Result, Ok, Err, if◌then◌else◌}
use Rattle.std.specs.Fmt.{decimal, signed_decimal}
use Rattle.std.specs.Str.Parse.{digits_value, signed_digits_value}
use Rattle.key_table.specs.Integers.{is_signed}
use Rattle.key_table.specs.Names.{is_word}
use Rattle.hex.specs.Hex.{encode_lower, decode_of}
use Rattle.hex.specs.declared.error.FromHexError.{FromHexError}

-- the value, where it fits and the field is its text
abbrev pub spelled : {A : Type 0} → (A → List ℕ) → (A → Bool) → List ℕ → A → Option A
spelled text fits field x = if bytes_eq (text x) field && fits x then Some x else None

-- The number below 4,294,967,296 whose decimal text the field is.
unfoldable pub number_of : List ℕ → Option ℕ
number_of field = spelled decimal (λ n. nat_lt n 4294967296) field (digits_value 10 field)

-- The signed 64-bit number whose decimal text the field is.
unfoldable pub signed_of : List ℕ → Option ℤ
signed_of field = spelled signed_decimal is_signed field (signed_digits_value 10 field)

abbrev pub if_ok : Result (List ℕ) FromHexError → Option (List ℕ)
if_ok (Ok bytes) = Some bytes
if_ok (Err e) = None

-- The bytes whose hexadecimal text in lower case the field is.
unfoldable pub bytes_of : List ℕ → Option (List ℕ)
bytes_of field = option_and_then (spelled encode_lower (λ bytes. true) field) (if_ok (decode_of field))

-- The word that the field is.
abbrev pub word_of : List ℕ → Option (List ℕ)
word_of field = if is_word field then Some field else None
