use Rattle.std.proofs.Common.{◌++◌, List, ℕ, map, take, ap, sym, option_copied, ◌∙◌, arith}
use Rattle.rule_report.specs.declared.numbered.NumberedStatement.{NumberedStatement}
use Rattle.rule_report.specs.Paths.{behind}
use Rattle.rule_report.specs.Numbered.{atoms_at, statement_numbers, rule_numbers}
use Rattle.rule_report.proofs.TakenLemmas.{added_then}
use Rattle.rule_report.proofs.Walks.{leaf_within, nested_within, nested_is, each_within, walk_next}
use Rattle.rule_report.proofs.Weights.{weight, weight_nested, weight_at}
use Rattle.rule_report.proofs.paths.+statements.Goals as goal

pub push_statement-take_all-requires-clause-within : goal.push_statement-take_all-requires-clause-within
push_statement-take_all-requires-clause-within t c =
    let whole = c.as_slice-in-None.ensures ∙ c.in_ok-here.ensures ∙ ap (λ (z : List ℕ). c.args.above.now ++ z) c.as_slice.ensures in
    leaf_within c.args.shared.now c.args.above.now c.as_slice-in-None.result.now c.args.statement.now whole (sym c.nested.ensures ∙ ap option_copied c.in-None.is) c.requires.within

pub push_statement-push_statements-requires : goal.push_statement-push_statements-requires
push_statement-push_statements-requires t c =
    let whole = c.as_slice-in-Some.ensures ∙ c.in_ok-here.ensures ∙ ap (λ (z : List ℕ). c.args.above.now ++ z) c.as_slice.ensures in
    let is = sym c.nested.ensures ∙ ap option_copied c.in-Some.is in
    let fewer = weight_nested c.args.statement.now c.in-Some.nested.now is in (
      omega (arith, c.decreases, fewer),
      (
        nested_within c.args.shared.now c.args.above.now c.as_slice-in-Some.result.now c.args.statement.now whole c.in-Some.nested.now is c.requires.within,
        c.requires.taken,
      ),
    )

pub push_statement-returns-clause-added : goal.push_statement-returns-clause-added
push_statement-returns-clause-added t c =
    let whole = c.as_slice-in-Some.ensures ∙ c.in_ok-here.ensures ∙ ap (λ (z : List ℕ). c.args.above.now ++ z) c.as_slice.ensures in
    let is = sym c.nested.ensures ∙ ap option_copied c.in-Some.is in
    rw (nested_is c.args.shared.now c.args.above.now c.as_slice-in-Some.result.now c.args.statement.now whole c.in-Some.nested.now is) c.push_statements.ensures.added

pub push_statements-push_statement-requires : goal.push_statements-push_statement-requires
push_statements-push_statement-requires t c =
    let part = weight_at c.args.statements.now c.loop-statement.statement-index c.statement-item.result c.loop-statement-test.true in
    let same = ap {A = NumberedStatement} weight c.statement-item.is in (
      omega (arith, c.decreases, part, same),
      (
        each_within c.args.shared.now c.args.above.now c.args.statements.now c.loop-statement.statement-index c.statement-item.result c.requires.within c.loop-statement-test.true c.statement-item.is,
        c.loop-statement.invariant.0,
      ),
    )

pub push_statements-loop-statement-preserved : goal.push_statements-loop-statement-preserved
push_statements-loop-statement-preserved t c =
    let front = map (atoms_at c.args.shared.now) (behind c.args.above.now (rule_numbers (take c.loop-statement.statement-index c.args.statements.now))) in (
      c.in_ok-push_statement.ensures.taken,
      rw (walk_next c.args.shared.now c.args.above.now c.args.statements.now c.loop-statement.statement-index c.statement-item.result c.loop-statement-test.true c.statement-item.is)
          (added_then c.args.taken.now.atoms c.loop-statement.taken.atoms c.push_statement.new.taken.atoms front (map (atoms_at c.args.shared.now) (behind c.args.above.now (statement_numbers c.statement-item.result)))
          c.args.paths.now c.loop-statement.paths c.push_statement.new.paths c.loop-statement.invariant.1 c.in_ok-push_statement.ensures.added),
    )
