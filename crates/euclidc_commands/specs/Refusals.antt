-- The lines that refuse a file.
use Rattle.std.specs.Prelude.{ℕ, List, ◌∷◌, ◌++◌, Option, Some, None, codes, decimal}
use Rattle.euclidc_commands.specs.declared.role.Role.{Role}
use Rattle.euclidc_commands.specs.Roles.{word_of}

-- what is refused, the code of its fault, and the place
abbrev pub refusal : List ℕ → ℕ → List ℕ → List ℕ
refusal what code place = codes "refused " ++ (what ++ 32 ∷ (decimal code ++ 32 ∷ (place ++ codes "\n")))

-- the line of a file that is longer than its limit
abbrev pub too_long : Role → List ℕ
too_long role = codes "toolong " ++ (word_of role ++ codes "\n")

-- the number of a rule, or the default
unfoldable pub rule_place : Option ℕ → List ℕ
rule_place None = codes "default"
rule_place (Some rule) = decimal rule
