-- Targets: the one that a word names, and which ones a program has.
use Rattle.std.specs.Prelude.{ℕ, codes, decimal, bytes_eq, nat_lt, ⊤, if◌then◌else◌}
use Rattle.std.specs.Str.Parse.{digits_value}
use Rattle.euclid_ast.specs.declared.meaning.Choice as decided
use Rattle.euclid_ast.specs.declared.meaning.Choice.TheVariants.{Rule, Default}
use Rattle.euclidc_commands.specs.declared.status.Verdict.TheVariants as verdict
use Rattle.euclidc_commands.specs.Refusals.{refusal}
use Rattle.euclidc_commands.specs.Runs.{End, goes, ends}
use Rattle.euclidc_commands.specs.Words.{Word}

-- the default, or the rule with the number that the word's digits say
abbrev pub target_of : Word → decided.Choice
target_of word = if bytes_eq word (codes "default") then Default else Rule (digits_value 10 word)

-- A program with so many rules has as targets these and the default. Another number is refused.
unfoldable pub target_in : ℕ → decided.Choice → End ⊤
target_in count (Rule rule) = if nat_lt rule count then goes tt else ends (refusal (codes "target") 1 (decimal rule)) verdict.Refused
target_in count Default = goes tt
