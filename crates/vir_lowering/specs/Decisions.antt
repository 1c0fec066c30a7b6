-- What a valued program decides, and that it is what its source program decides.
use Rattle.std.specs.Prelude.{◌≡◌, List, Bool, ◌&&◌, position}
use Rattle.std.specs.List.{list_any, list_all}
use Rattle.key_table.specs.declared.atom.Atom.{Atom}
use Rattle.key_table.specs.Payments.{Entries}
use Rattle.key_table.specs.Options.{holds_on}
use Rattle.euclid_ast.specs.declared.meaning.Choice as decided
use Rattle.euclid_ast.specs.Meaning.{nested_holds, choice_of, choice}
use Rattle.dir_typing.specs.Typed.{Typed, IsTyped}
use Rattle.vir_lowering.specs.declared.vir.VirStatement.{VirStatement}
use Rattle.vir_lowering.specs.declared.vir.VirStatement.TheOpen.{VirStatement-F}
use Rattle.vir_lowering.specs.declared.vir.VirStatement.TheFolds.{fold-VirStatement}
use Rattle.vir_lowering.specs.declared.vir.VirRule.{VirRule}
use Rattle.vir_lowering.specs.Valued.{valued_rules}

-- A condition holds where each of its atoms does.
abbrev pub condition_holds : Entries → List Atom → Bool
condition_holds payment atoms = list_all (λ atom. holds_on atom payment) atoms

-- one statement, by whether each nested statement holds
abbrev pub holds_step : Entries → VirStatement-F Bool → Bool
holds_step payment s = condition_holds payment s.condition && nested_holds s.nested

-- A statement holds where its condition does and, where a nested list is there, some nested statement does.
abbrev pub statement_holds : Entries → VirStatement → Bool
statement_holds payment = fold-VirStatement Bool (holds_step payment)

-- A rule matches where one of its statements holds.
abbrev pub rule_matches : Entries → VirRule → Bool
rule_matches payment rule = list_any (statement_holds payment) rule.statements

-- The first rule that matches decides, else the default.
abbrev pub decision : Entries → List VirRule → decided.Choice
decision payment rules = choice_of (position (rule_matches payment) rules)

-- A valued program decides what its source does, on every payment, legal or not.
abbrev pub IsKept : Typed → Type 0
IsKept p = (payment : Entries) → decision payment (valued_rules p) ≡ choice p.table payment p.source

-- So it is for every typed program.
abbrev pub KeepsLaw : Type 0
KeepsLaw = (p : Typed) → IsTyped p → IsKept p
