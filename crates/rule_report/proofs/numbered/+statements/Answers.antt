use Rattle.std.proofs.Common.{List, take, subst}
use Rattle.std.specs.List.{flat_map}
use Rattle.vir_lowering.specs.declared.vir.VirStatement.{VirStatement}
use Rattle.rule_report.specs.Paths.{Path, statement_paths}
use Rattle.rule_report.specs.Numbered.{statement_numbers, rule_numbers, AreNumbersOf, ArePathsOf}
use Rattle.rule_report.proofs.Growth.{grown_then, numbers_kept, paths_more}
use Rattle.rule_report.proofs.Images.{flat_push, flat_next}
use Rattle.rule_report.proofs.Walks.{nested_right}
use Rattle.rule_report.proofs.numbered.+statements.Goals as goal

pub number_statement-returns-in_ok-nested-in-Some-clause-grown : goal.number_statement-returns-in_ok-nested-in-Some-clause-grown
number_statement-returns-in_ok-nested-in-Some-clause-grown t c =
    grown_then c.args.atoms.now.keys c.number_atoms.new.atoms.keys c.number_statements.new.atoms.keys c.in_ok-condition.ensures.grown c.in_ok-nested-in-Some.ensures.grown

pub number_statement-returns-in_ok-nested-in-Some-clause-right : goal.number_statement-returns-in_ok-nested-in-Some-clause-right
number_statement-returns-in_ok-nested-in-Some-clause-right t c =
    let P : Path → Type 0 = λ z. AreNumbersOf c.number_atoms.new.atoms.keys c.in_ok-condition.condition z in
    let Q : List VirStatement → Type 0 = λ z. ArePathsOf c.number_statements.new.atoms.keys (rule_numbers c.in_ok-nested-in-Some.nested) (flat_map statement_paths z) in
    nested_right c.number_statements.new.atoms.keys c.in_ok-condition.condition c.in_ok-nested-in-Some.nested c.args.statement.now c.in-Some.nested c.in-Some.is
    (numbers_kept c.number_atoms.new.atoms.keys c.number_statements.new.atoms.keys c.in_ok-nested-in-Some.ensures.grown c.in_ok-condition.condition _ (subst P c.as_slice.ensures c.in_ok-condition.ensures.right))
    (subst Q c.as_slice-in-Some.ensures c.in_ok-nested-in-Some.ensures.right)

pub number_statements-loop-statement-preserved : goal.number_statements-loop-statement-preserved
number_statements-loop-statement-preserved t c = (
  grown_then c.args.atoms.now.keys c.loop-statement.atoms.keys c.number_statement.new.atoms.keys c.loop-statement.invariant.0 c.in_ok-number_statement.ensures.grown,
  rw (
    c.in_ok-push.ensures.ok,
    flat_push statement_numbers c.loop-statement.numbered c.in_ok-number_statement.field-0,
    flat_next statement_paths c.args.statements.now c.loop-statement.statement-index c.statement-item.result c.loop-statement-test.true c.statement-item.is,
  )
      (paths_more c.loop-statement.atoms.keys c.number_statement.new.atoms.keys c.in_ok-number_statement.ensures.grown (rule_numbers c.loop-statement.numbered) (statement_numbers c.in_ok-number_statement.field-0)
      (flat_map statement_paths (take c.loop-statement.statement-index c.args.statements.now)) (statement_paths c.statement-item.result) c.loop-statement.invariant.1 c.in_ok-number_statement.ensures.right),
)
