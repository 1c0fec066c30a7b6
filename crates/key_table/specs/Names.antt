-- Names of keys and of variants.
use Rattle.std.specs.Prelude.{ℕ, List, [], ◌∷◌, length, map, nat_le, bytes_eq, Bool, true, false, not, ◌&&◌, ◌||◌, ◌==◌}
use Rattle.std.specs.List.{list_any, list_all}

-- whether a byte is a letter or `_`
abbrev pub is_letter : ℕ → Bool
is_letter c = (nat_le 65 c && nat_le c 90) || (nat_le 97 c && nat_le c 122) || c == 95

-- whether a byte is a letter, `_` or a digit
abbrev pub is_letter_or_digit : ℕ → Bool
is_letter_or_digit c = is_letter c || (nat_le 48 c && nat_le c 57)

-- A word is a letter or `_`, and then letters, digits and `_`.
abbrev pub is_word : List ℕ → Bool
is_word [] = false
is_word (c ∷ cs) = is_letter c && list_all is_letter_or_digit cs

-- A name is a word of at most 255 bytes.
abbrev pub is_name : List ℕ → Bool
is_name name = is_word name && nat_le (length name) 255

-- whether a name is one of these
abbrev pub is_among : List ℕ → List (List ℕ) → Bool
is_among name names = list_any (bytes_eq name) names

-- whether no name stands twice
abbrev pub are_distinct : List (List ℕ) → Bool
are_distinct [] = true
are_distinct (name ∷ names) = not (is_among name names) && are_distinct names

-- whether these are names, each once
unfoldable pub are_names : List (List ℕ) → Bool
are_names names = list_all is_name names && are_distinct names
