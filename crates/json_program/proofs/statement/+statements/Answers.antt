use Rattle.std.proofs.Common.{map}
use Rattle.std.proofs.lemmas.List.Folds.{list_all-append}
use Rattle.std.proofs.lemmas.Result.{err_from_is_err_and}
use Rattle.serde_json.specs.View.{view}
use Rattle.key_table.specs.Answers.{fails_with}
use Rattle.json_shape.specs.Counted.{each}
use Rattle.json_shape.proofs.InTurnCounted.{goes_on, stops, ends}
use Rattle.json_program.specs.Statements.{statement_of}
use Rattle.json_program.proofs.Levels.{no_level, one_level}
use Rattle.json_program.proofs.statement.+statements.Goals as goal

pub statements-returns-in_err-statement-clause-statements : goal.statements-returns-in_err-statement-clause-statements
statements-returns-in_err-statement-clause-statements t c =
    let p = err_from_is_err_and c.from_residual-in_err-statement.result c.from_residual-in_err-statement.ensures.1 in
    rw (p.1, p.2) (stops c.in_err-statement.field-0.0 (statement_of c.args.levels) c.args.path.now c.loop-i.i c.args.nodes.now c.index-nodes-i.result c.loop-i.items c.in_ok-at.at c.loop-i.counts (each (statement_of c.args.levels) c.args.path.now 0 (map view c.args.nodes.now) c.args.counts.now)
    c.loop-i-test.true c.index-nodes-i.is c.in_ok-at.ensures c.in_err-statement.ensures.statement c.loop-i.invariant.statements)

pub statements-loop-i-preserved : goal.statements-loop-i-preserved
statements-loop-i-preserved t c = record {
  statements = rw (c.in_ok-push.ensures.ok) (goes_on (statement_of c.args.levels) c.args.path.now c.loop-i.i c.args.nodes.now c.index-nodes-i.result c.loop-i.items c.in_ok-statement.field-0 c.in_ok-at.at c.loop-i.counts c.statement.new.counts (each (statement_of c.args.levels) c.args.path.now 0 (map view c.args.nodes.now) c.args.counts.now)
      c.loop-i-test.true c.index-nodes-i.is c.in_ok-at.ensures c.in_ok-statement.ensures.statement c.loop-i.invariant.statements);
  fit = rw (c.in_ok-push.ensures.ok, list_all-append, c.loop-i.invariant.fit, c.in_ok-statement.ensures.fits);
}

pub statements-returns-clause-statements : goal.statements-returns-clause-statements
statements-returns-clause-statements t c = ends (statement_of c.args.levels) c.args.path.now c.loop-i.i c.args.nodes.now c.loop-i.items c.loop-i.counts (each (statement_of c.args.levels) c.args.path.now 0 (map view c.args.nodes.now) c.args.counts.now) c.loop-i-test.false c.loop-i.invariant.statements

pub statement-returns-then-levels-eq0-clause-statement : goal.statement-returns-then-levels-eq0-clause-statement
statement-returns-then-levels-eq0-clause-statement t c = fails_with _ _ _ c.stop.ensures (no_level _ _ _ _ c.if-levels-eq0.true)

pub statement-returns-clause-statement : goal.statement-returns-clause-statement
statement-returns-clause-statement t c = rw (one_level c.args.levels c.args.path.now (view c.args.node.now) c.args.counts.now c.if-levels-eq0.false) c.body.ensures.statement
