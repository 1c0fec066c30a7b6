use Rattle.std.proofs.Common.{Some, slice_get}
use Rattle.contradiction_checker.specs.Findings.{test_at}
use Rattle.contradiction_checker.proofs.Findings.{test_there}
use Rattle.contradiction_checker.proofs.premises.Premises.node_verdict.Goals as goal

pub test_verdict-requires-clause-before : goal.test_verdict-requires-clause-before
test_verdict-requires-clause-before c = record {
  of_it = λ finding is. c.requires.found.at c.args.node c.in-Some.atom.now finding (test_there (slice_get c.args.graph.now c.args.node) (Some c.in-Some.atom.now) c.in-Some.ensures) is;
}

pub returns-in-Some-clause-found : goal.returns-in-Some-clause-found
returns-in-Some-clause-found c = c.test_verdict.ensures.found.for_all (test_at c.args.graph.now) (test_there (slice_get c.args.graph.now c.args.node) (Some c.in-Some.atom.now) c.in-Some.ensures) c.requires.found
