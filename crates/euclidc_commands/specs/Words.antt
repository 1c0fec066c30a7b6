-- The forms of words that are commands.
use Rattle.std.specs.Prelude.{ℕ, List, [], ◌∷◌, length, codes, decimal, bytes_eq, nat_lt, nat_le, Bool, true, ◌&&◌, ◌||◌, ◌==◌, Option, Some, None, if◌then◌else◌}
use Rattle.std.specs.Str.Parse.{digits_value}

abbrev pub Word : Type 0
Word = List ℕ

-- What a word has to be: this very word, the name of a file, a canonical number up to this, or a target.
pub data Form : Type 0 where
  exactly : Word → Form
  file : Form
  number : ℕ → Form
  target : Form

-- The name of a file is not empty. A table's is `-` for the built-in table.
abbrev pub is_name : Word → Bool
is_name word = nat_lt 0 (length word)

-- A canonical number is what is written in decimal for the number that its digits say.
abbrev pub is_number : ℕ → Word → Bool
is_number most word = bytes_eq word (decimal (digits_value 10 word)) && nat_le (digits_value 10 word) most

-- the number that a word writes so, where it writes one up to this
abbrev pub number_in : ℕ → Word → Option ℕ
number_in most word = if is_number most word then Some (digits_value 10 word) else None

-- the default, or the number of a rule
abbrev pub is_target : Word → Bool
is_target word = bytes_eq word (codes "default") || is_number 255 word

abbrev pub accepts : Form → Word → Bool
accepts (exactly wanted) word = bytes_eq word wanted
accepts file word = is_name word
accepts (number most) word = is_number most word
accepts target word = is_target word

abbrev pub all_accept : List Form → List Word → Bool
all_accept [] words = true
all_accept forms [] = true
all_accept (form ∷ forms) (word ∷ words) = accepts form word && all_accept forms words

-- There are as many words as places, and each word is what its place asks for.
abbrev pub fits : List Form → List Word → Bool
fits forms words = (length forms == length words) && all_accept forms words

abbrev pub decide_form : List Form
decide_form = exactly (codes "decide") ∷ file ∷ file ∷ file ∷ []

abbrev pub report_form : List Form
report_form = exactly (codes "report") ∷ file ∷ file ∷ file ∷ number 65536 ∷ []

abbrev pub prove_form : List Form
prove_form = exactly (codes "prove") ∷ file ∷ file ∷ file ∷ target ∷ number 65536 ∷ []

abbrev pub check_form : List Form
check_form = exactly (codes "check") ∷ file ∷ file ∷ file ∷ target ∷ file ∷ []

abbrev pub convert_form : Word → List Form
convert_form written = exactly (codes "convert") ∷ file ∷ exactly written ∷ []

abbrev pub sample_form : List Form
sample_form = exactly (codes "sample") ∷ number 4294967295 ∷ []
