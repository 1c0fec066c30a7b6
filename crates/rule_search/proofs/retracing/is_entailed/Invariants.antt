use Rattle.std.proofs.Common.{take}
use Rattle.domain_store.specs.Stores.{context_of}
use Rattle.rule_problem.specs.Literals.{AreEntailed}
use Rattle.rule_search.proofs.retracing.is_entailed.Given as goal

abbrev pub invariant-loop-literal : goal.invariant-loop-literal
invariant-loop-literal l = AreEntailed l.store.table (context_of l.store) l.store.problem.atoms (take l.literal-index l.path)
