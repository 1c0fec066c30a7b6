use Rattle.std.proofs.Common.{take}
use Rattle.domain_store.specs.Stores.{context_of}
use Rattle.rule_problem.specs.Literals.{AreRefuted}
use Rattle.rule_search.proofs.retracing.are_refuted.Given as goal

abbrev pub invariant-loop-path : goal.invariant-loop-path
invariant-loop-path l = AreRefuted l.store.table (context_of l.store) l.store.problem.atoms (take l.path-index l.paths)
