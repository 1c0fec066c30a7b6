-- Which programs are within the limits.
use Rattle.std.specs.Prelude.{◌≡◌, ℕ, ◌+◌, ◌≤◌, ℤ, pos, int_le, nat_le, List, [], ◌++◌, length, max, map, fold, sum, Bool, true, ◌&&◌}
use Rattle.std.specs.List.{list_all, flat_map}
use Rattle.std.specs.Option.{option_map_or}
use Rattle.key_table.specs.Integers.{is_signed}
use Rattle.euclid_ast.specs.declared.selection.Account.{Account}
use Rattle.euclid_ast.specs.declared.selection.Share.{Share}
use Rattle.euclid_ast.specs.declared.selection.Selection.{Selection}
use Rattle.euclid_ast.specs.declared.selection.Selection.TheVariants.{Priority, Volume, SurchargeFixed, SurchargeRate}
use Rattle.euclid_ast.specs.declared.statement.NumberTest.{NumberTest}
use Rattle.euclid_ast.specs.declared.statement.ValueForm.{ValueForm}
use Rattle.euclid_ast.specs.declared.statement.ValueForm.TheVariants.{Number, Variant, Metadata, Str, Numbers, Variants, NumberTests}
use Rattle.euclid_ast.specs.declared.statement.Comparison.{Comparison}
use Rattle.euclid_ast.specs.declared.statement.Statement.{Statement}
use Rattle.euclid_ast.specs.declared.statement.Statement.TheOpen.{Statement-F}
use Rattle.euclid_ast.specs.declared.statement.Statement.TheFolds.{fold-Statement}
use Rattle.euclid_ast.specs.declared.program.Rule.{Rule}
use Rattle.euclid_ast.specs.declared.program.Program.{Program}

-- what stands in a statement: its own comparisons, and then for each nested statement what stands there
abbrev pub comparisons_step : Statement-F (List Comparison) → List Comparison
comparisons_step s = s.condition ++ option_map_or (flat_map (λ nested. nested)) s.nested []

-- The comparisons of a statement in preorder: its own, then those of its nested statements.
abbrev pub comparisons_of : Statement → List Comparison
comparisons_of = fold-Statement (List Comparison) comparisons_step

abbrev pub comparisons_in : List Statement → List Comparison
comparisons_in statements = flat_map comparisons_of statements

abbrev pub statements_step : Statement-F ℕ → ℕ
statements_step s = option_map_or sum s.nested 0 + 1

-- how many statements a statement is, itself and those nested in it
abbrev pub statements_of : Statement → ℕ
statements_of = fold-Statement ℕ statements_step

abbrev pub levels_step : Statement-F ℕ → ℕ
levels_step s = option_map_or (fold max 0) s.nested 0 + 1

-- how deep a statement nests, itself being level 1
abbrev pub levels_of : Statement → ℕ
levels_of = fold-Statement ℕ levels_step

-- at most 255 bytes
abbrev pub is_short : List ℕ → Bool
is_short text = nat_le (length text) 255

-- at most 4,096 items
abbrev pub is_few : {X : Type 0} → List X → Bool
is_few items = nat_le (length items) 4096

abbrev pub is_account : Account → Bool
is_account account = is_short account.connector && option_map_or is_short account.id true

abbrev pub is_share : Share → Bool
is_share share = is_account share.account && nat_le share.split 255

-- An amount is at least 0, and a rate is at most 10,000 basis points.
abbrev pub is_selection : Selection → Bool
is_selection (Priority accounts) = is_few accounts && list_all is_account accounts
is_selection (Volume shares) = is_few shares && list_all is_share shares
is_selection (SurchargeFixed amount) = int_le (pos 0) amount && is_signed amount
is_selection (SurchargeRate points) = nat_le points 10000
is_selection _ = true

abbrev pub is_test : NumberTest → Bool
is_test test = is_signed test.number

abbrev pub is_value : ValueForm → Bool
is_value (Number n) = is_signed n
is_value (Variant word) = is_short word
is_value (Metadata key text) = is_short key && is_short text
is_value (Str text) = is_short text
is_value (Numbers ns) = is_few ns && list_all is_signed ns
is_value (Variants words) = is_few words && list_all is_short words
is_value (NumberTests tests) = is_few tests && list_all is_test tests

abbrev pub is_comparison : Comparison → Bool
is_comparison c = is_short c.lhs && is_value c.value

-- the comparisons of a program, those of the first rule first
abbrev pub all_comparisons : Program → List Comparison
all_comparisons program = flat_map (λ (rule : Rule). comparisons_in rule.statements) program.rules

-- the statements of the first level, those of the first rule first
abbrev pub all_statements : Program → List Statement
all_statements program = flat_map (λ (rule : Rule). rule.statements) program.rules

-- The program is within the limits.
pub record IsWithinLimits (program : Program) : Type 0 where
  pub rules : length program.rules ≤ 256
  pub statements : sum (map statements_of (all_statements program)) ≤ 16384
  pub comparisons : length (all_comparisons program) ≤ 16384
  pub levels : list_all (λ s. nat_le (levels_of s) 32) (all_statements program) ≡ true
  pub values : list_all is_comparison (all_comparisons program) ≡ true
  pub names : list_all (λ (rule : Rule). is_short rule.name) program.rules ≡ true
  pub default : is_selection program.default_selection ≡ true
  pub selections : list_all (λ (rule : Rule). is_selection rule.selection) program.rules ≡ true
