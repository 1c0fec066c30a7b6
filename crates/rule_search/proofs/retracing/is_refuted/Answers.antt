use Rattle.domain_store.specs.Stores.{context_of}
use Rattle.rule_problem.specs.Literals.{IsRefuted}
use Rattle.std.proofs.Common.{false}
use Rattle.rule_search.proofs.Quantifiers.{any_here}
use Rattle.rule_search.proofs.retracing.is_refuted.Goals as goal

pub returns-then-is_forced : goal.returns-then-is_forced
returns-then-is_forced c = λ _.
    any_here (IsRefuted c.args.store.now.table (context_of c.args.store.now) c.args.store.now.problem.atoms) c.args.path.now c.loop-literal.literal-index (record { atom = 0; want = false }) c.loop-literal-test.true (c.is_forced.ensures c.if-is_forced.true)
