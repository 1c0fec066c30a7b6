-- What a call appends that tells what is found on targets.
use Rattle.std.specs.Prelude.{◌≡◌, ℕ, List, ◌++◌, length, map, Bool}
use Rattle.std.specs.List.{range_with_len}
use Rattle.euclid_ast.specs.declared.meaning.Choice as decided
use Rattle.euclid_ast.specs.declared.meaning.Choice.TheVariants.{Rule}
use Rattle.euclid_ast.specs.Meaning.{IsWithin}
use Rattle.rule_problem.specs.declared.certificate.Report.{Report}
use Rattle.rule_report.specs.Aims.{Aims}
use Rattle.rule_report.specs.Answers.{IsAnswerOn}
use Rattle.euclidc_commands.specs.Findings.{is_open, ReadsBack}
use Rattle.euclidc_commands.specs.Report.{block, Tells}

-- the rules of so many, in order
abbrev pub rules_to : ℕ → List decided.Choice
rules_to count = map (λ rule. Rule rule) (range_with_len 0 count)

-- An answer of the search on a target, which is one of the program's. It reads back.
pub record Finds (a : Aims) (budget : ℕ) (target : decided.Choice) (report : Report) : Type 0 where
  pub within : IsWithin target (length a.program.source.rules)
  pub answer : IsAnswerOn a budget target report
  pub reads_back : ReadsBack a.program.table report

-- The block of what is found on a target came last, and this says whether the target is left open.
pub record IsBlock (a : Aims) (budget : ℕ) (target : decided.Choice) (old new : List ℕ) (is_left : Bool) : Type 0 where
  pub report : Report
  pub found : Finds a budget target report
  pub came : new ≡ old ++ block a.program target report
  pub says : is_left ≡ is_open report

-- A text came last that tells what is found on each of some targets.
pub record AppendsAll (a : Aims) (budget : ℕ) (targets : List decided.Choice) (old new : List ℕ) (is_left : Bool) : Type 0 where
  pub text : List ℕ
  pub came : new ≡ old ++ text
  pub tells : Tells (Finds a budget) a.program targets text is_left
