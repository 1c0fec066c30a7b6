-- What is answered on the targets of a program.
use Rattle.std.specs.Prelude.{◌≡◌, ℕ, ◌<◌, ◌^◌, List, [], ◌∷◌, ◌++◌, length, map, true}
use Rattle.std.specs.List.{AllZip, range_with_len}
use Rattle.euclid_ast.specs.declared.meaning.Choice as decided
use Rattle.euclid_ast.specs.declared.meaning.Choice.TheVariants.{Rule, Default}
use Rattle.rule_problem.specs.declared.certificate.Report.{Report}
use Rattle.rule_problem.specs.declared.problem.Problem.{Problem}
use Rattle.rule_problem.specs.Problems.{problem_fits}
use Rattle.rule_search.specs.Reports.{IsReport, NamesFew}
use Rattle.rule_report.specs.Aims.{Aims}
use Rattle.rule_report.specs.Paths.{paths_of}
use Rattle.rule_report.specs.Reaching.{IsMetWhere}
use Rattle.rule_report.specs.Targets.{IsProblemOf}

-- Each atom, want and bar of a problem has a number of 32 bits.
pub record IsNumbered (problem : Problem) : Type 0 where
  pub few_atoms : length problem.atoms < 2 ^ 32
  pub few_wants : length problem.wants < 2 ^ 32
  pub few_bars : length problem.bars < 2 ^ 32

-- An answer that the search may give, with a budget, on the problem of a target. Exactly the payments that come to the target satisfy that problem.
pub record IsAnswerOn (a : Aims) (budget : ℕ) (target : decided.Choice) (report : Report) : Type 0 where
  pub problem : Problem
  pub of_target : IsProblemOf (paths_of a.program) a.connectors.graph a.connectors.goal target problem
  pub fits : problem_fits a.program.table problem ≡ true
  pub met : IsMetWhere a.program a.connectors target problem
  pub answered : IsReport a.program.table problem budget report
  pub named : NamesFew problem budget report

-- the targets of so many rules: each rule in order, and then the default
abbrev pub targets_of : ℕ → List decided.Choice
targets_of count = map (λ rule. Rule rule) (range_with_len 0 count) ++ Default ∷ []

-- One answer for each target.
abbrev pub AreAnswersOn : Aims → ℕ → List Report → Type 0
AreAnswersOn a budget reports = AllZip (IsAnswerOn a budget) (targets_of (length a.program.source.rules)) reports
