use Rattle.rule_problem.proofs.Readings.{reads, reads_trace, counts}
use Rattle.rule_problem.proofs.laws.reading_law.Goals as goal

pub returns-clause-certificate : goal.returns-clause-certificate
returns-clause-certificate c = reads c.atom_law.ensures

pub returns-clause-trace : goal.returns-clause-trace
returns-clause-trace c = reads_trace c.atom_law.ensures

pub returns-clause-count : goal.returns-clause-count
returns-clause-count c = counts
