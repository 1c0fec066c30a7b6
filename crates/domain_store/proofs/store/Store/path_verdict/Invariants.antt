use Rattle.std.proofs.Common.{take}
use Rattle.domain_store.specs.Verdicts.{PathHasVerdict}
use Rattle.domain_store.proofs.store.Store.path_verdict.Given as goal

abbrev pub invariant-loop-literal : goal.invariant-loop-literal
invariant-loop-literal l = PathHasVerdict l.self (take l.literal-index l.path) l.verdict
