use Rattle.rule_problem.proofs.Fit.{atoms_fit_all, fits_parts, in_graph}
use Rattle.rule_problem.proofs.laws.fits_law.Goals as goal

pub returns-clause-atoms : goal.returns-clause-atoms
returns-clause-atoms c = atoms_fit_all

pub returns-clause-graph : goal.returns-clause-graph
returns-clause-graph c = λ table problem fits atom in_it. in_graph c.atom_law.ensures problem (fits_parts table problem fits) atom in_it
