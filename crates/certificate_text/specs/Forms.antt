-- The form of numbers and of hexadecimal text, byte by byte.
use Rattle.std.specs.Prelude.{ℕ, nat_le, List, [], ◌∷◌, length, Bool, false, ◌&&◌, ◌||◌, ◌==◌, ◌%◌}
use Rattle.std.specs.Borrow.{Bor}
use Rattle.std.specs.Prelude.{Option, Some, None, if◌then◌else◌}
use Rattle.std.specs.List.{list_all, slice_split}

-- `0`, or bytes that begin with a digit from 1 to 9
abbrev pub is_led : List ℕ → Bool
is_led [] = false
is_led (b ∷ bytes) = (nat_le 49 b && nat_le b 57) || (b == 48 && length bytes == 0)

abbrev pub is_hex_digit : ℕ → Bool
is_hex_digit b = (nat_le 48 b && nat_le b 57) || (nat_le 97 b && nat_le b 102)

-- an even number of digits, each of them lower case
abbrev pub is_hex : List ℕ → Bool
is_hex digits = length digits % 2 == 0 && list_all is_hex_digit digits

-- the fields of what is left of a line
abbrev pub fields_of : Option (Bor (List ℕ)) → List (List ℕ)
fields_of None = []
fields_of (Some rest) = slice_split (λ b. b == 32) rest.now

abbrev pub without_minus : List ℕ → List ℕ
without_minus [] = []
without_minus (b ∷ bytes) = if b == 45 then bytes else b ∷ bytes
