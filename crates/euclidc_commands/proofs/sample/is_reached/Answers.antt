use Rattle.std.proofs.Common.{subst, arith}
use Rattle.rule_problem.specs.declared.certificate.Report.{Report}
use Rattle.rule_problem.specs.declared.certificate.Report.TheVariants.{Reach, Never}
use Rattle.rule_search.specs.Reports.{IsReport}
use Rattle.euclidc_commands.proofs.SampleLemmas.{reach_tells, never_tells, none_spent}
use Rattle.euclidc_commands.proofs.sample.is_reached.Goals as goal

pub search-requires-clause-few_atoms : goal.search-requires-clause-few_atoms
search-requires-clause-few_atoms c =
    let few = (c.requires.small c.args.target c.in_ok-problem.problem c.in_ok-problem.ensures.problem).atoms in
    omega arith

pub search-requires-clause-few_bars : goal.search-requires-clause-few_bars
search-requires-clause-few_bars c =
    let few = (c.requires.small c.args.target c.in_ok-problem.problem c.in_ok-problem.ensures.problem).bars in
    omega arith

pub returns-in-Reach : goal.returns-in-Reach
returns-in-Reach c s graph =
    let P : Report → Type 0 = λ r. IsReport c.args.table.now c.in_ok-problem.problem 65536 r in
    let report : P (Reach c.in-Reach.field-0) = subst P c.in-Reach.is c.in_ok-search.ensures.report in
    reach_tells c.args.targets.now.program s c.args.table.now c.args.targets.now.connectors c.args.target c.in_ok-problem.problem c.in-Reach.field-0 c.requires.table graph c.in_ok-problem.ensures.met report.satisfies

pub returns-in-Never : goal.returns-in-Never
returns-in-Never c s graph =
    let P : Report → Type 0 = λ r. IsReport c.args.table.now c.in_ok-problem.problem 65536 r in
    let report : P (Never c.in-Never.field-0) = subst P c.in-Never.is c.in_ok-search.ensures.report in
    never_tells c.args.targets.now.program s c.args.table.now c.args.targets.now.connectors c.args.target c.in_ok-problem.problem c.in-Never.field-0 c.proof_law.ensures c.requires.table graph
    c.in_ok-problem.ensures.met c.in_ok-problem.ensures.fits report.proves

pub unreachable-requires : goal.unreachable-requires
unreachable-requires c =
    let P : Report → Type 0 = λ r. IsReport c.args.table.now c.in_ok-problem.problem 65536 r in
    none_spent c.bound_law.ensures.traces c.args.targets.now.program c.args.table.now c.in_ok-problem.problem c.in-Spent.field-0 c.requires.table c.in_ok-problem.ensures.fits
    (c.requires.small c.args.target c.in_ok-problem.problem c.in_ok-problem.ensures.problem).atoms (subst P c.in-Spent.is c.in_ok-search.ensures.report)
