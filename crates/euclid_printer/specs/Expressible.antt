-- What the text form cannot say.
use Rattle.std.specs.Prelude.{ℕ, List, Bool, true, not, ◌&&◌, Option, Some, None, position, Result, Ok, Err, if◌then◌else◌}
use Rattle.std.specs.List.{list_all}
use Rattle.std.specs.Option.{option_map_or}
use Rattle.key_table.specs.Names.{is_word}
use Rattle.euclid_lexer.specs.Pieces.{is_quotable, text_of}
use Rattle.euclid_ast.specs.declared.statement.ValueForm.{ValueForm}
use Rattle.euclid_ast.specs.declared.statement.ValueForm.TheVariants.{Number, Variant, Metadata, Str, Numbers, Variants, NumberTests}
use Rattle.euclid_ast.specs.declared.statement.Comparison.{Comparison}
use Rattle.euclid_ast.specs.declared.statement.Statement.{Statement}
use Rattle.euclid_ast.specs.declared.statement.Statement.TheOpen.{Statement-F}
use Rattle.euclid_ast.specs.declared.statement.Statement.TheFolds.{fold-Statement}
use Rattle.euclid_ast.specs.declared.selection.Account.{Account}
use Rattle.euclid_ast.specs.declared.selection.Share.{Share}
use Rattle.euclid_ast.specs.declared.selection.Selection.{Selection}
use Rattle.euclid_ast.specs.declared.selection.Selection.TheVariants.{Priority, Volume, SurchargeFixed, SurchargeRate, Auth, Nothing}
use Rattle.euclid_ast.specs.declared.program.Rule.{Rule}
use Rattle.euclid_ast.specs.declared.program.Program.{Program}
use Rattle.euclid_grammar.specs.Fits.{is_filled}
use Rattle.euclid_printer.specs.declared.error.Inexpressible.{Inexpressible}
use Rattle.euclid_printer.specs.Layout.{program_pieces}

-- An array has at least one item, a variant is a word, and a text has no quote and no line feed.
abbrev pub says_value : ValueForm → Bool
says_value (Number z) = true
says_value (Variant w) = is_word w
says_value (Metadata key value) = is_quotable key && is_quotable value
says_value (Str s) = is_quotable s
says_value (Numbers zs) = is_filled zs
says_value (Variants ws) = is_filled ws && list_all is_word ws
says_value (NumberTests ts) = is_filled ts

-- A left side is a word.
abbrev pub says_comparison : Comparison → Bool
says_comparison c = is_word c.lhs && says_value c.value

-- A nested list that is there has at least one statement, and each of them can be said.
abbrev pub says_nested : Option (List Bool) → Bool
says_nested None = true
says_nested (Some nested) = is_filled nested && list_all (λ said. said) nested

-- One statement, by whether each of the nested ones can be said: its condition has at least one comparison.
abbrev pub says_step : Statement-F Bool → Bool
says_step s = (is_filled s.condition && list_all says_comparison s.condition) && says_nested s.nested

-- whether the text form can say a statement
abbrev pub says_statement : Statement → Bool
says_statement = fold-Statement Bool says_step

-- Neither the connector nor the id has a quote or a line feed.
abbrev pub says_account : Account → Bool
says_account a = is_quotable a.connector && option_map_or is_quotable a.id true

-- any split can be said
abbrev pub says_share : Share → Bool
says_share s = says_account s.account

-- a list of accounts or of shares may be empty
abbrev pub says_selection : Selection → Bool
says_selection (Priority accounts) = list_all says_account accounts
says_selection (Volume shares) = list_all says_share shares
says_selection (SurchargeFixed z) = true
says_selection (SurchargeRate n) = true
says_selection (Auth decision) = true
says_selection Nothing = true

-- A rule's name has no quote and no line feed, and a rule may have no statement.
abbrev pub says_rule : Rule → Bool
says_rule r = is_quotable r.name && (says_selection r.selection && list_all says_statement r.statements)

-- the number of a rule that can't be said, where there is one
abbrev pub unsaid_rule : Option ℕ → Option Inexpressible
unsaid_rule None = None
unsaid_rule (Some n) = Some (record { rule = Some n })

-- What of a program can't be said: the default, or else the first such rule.
abbrev pub unsaid : Program → Option Inexpressible
unsaid p = if says_selection p.default_selection then unsaid_rule (position (λ r. not (says_rule r)) p.rules) else Some (record { rule = None })

-- the answer, where there is no fault
abbrev pub unless : {E Y : Type 0} → Option E → Y → Result Y E
unless None y = Ok y
unless (Some e) y = Err e

-- The text of a program, where the text form can say it.
abbrev pub printed : Program → Result (List ℕ) Inexpressible
printed p = unless (unsaid p) (text_of (program_pieces p))
