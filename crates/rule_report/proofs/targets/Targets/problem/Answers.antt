use Rattle.std.proofs.Common.{◌≡◌, length, true, sym, subst, IfOk}
use Rattle.euclid_ast.specs.Meaning.{IsWithin}
use Rattle.rule_problem.specs.Problems.{problem_fits}
use Rattle.rule_report.specs.Aims.{Aims}
use Rattle.rule_report.specs.Paths.{paths_of}
use Rattle.rule_report.specs.Targets.{IsProblemOf}
use Rattle.rule_report.specs.Reaching.{IsMetWhere}
use Rattle.rule_report.proofs.Fitting.{fits}
use Rattle.rule_report.proofs.Images.{if_ok}
use Rattle.rule_report.proofs.Made.{of_source}
use Rattle.rule_report.proofs.SatLaws.{met}
use Rattle.rule_report.proofs.targets.Targets.problem.Goals as goal

pub returns-clause-fits : goal.returns-clause-fits
returns-clause-fits c =
    let p = c.self.inside.program.value in
    let g = c.self.inside.connectors.value in
    let i = c.self.invariant in
    let P : Aims → Type 0 = λ s. IfOk c.problem_of.result (λ problem. problem_fits s.program.table problem ≡ true) in
    let of = of_source (paths_of p) g.graph c.self.inside.graph g.goal c.self.inside.goal c.self.inside.shared c.args.target c.problem_of.result i.2.rules_are i.3 i.4 c.problem_of.ensures.problem in
    subst P c.self.view_is
    (if_ok c.problem_of.result (IsProblemOf (paths_of p) g.graph g.goal c.args.target) (λ problem. problem_fits p.table problem ≡ true)
    (fits c.atom_law.ensures p (c.fits_law.ensures p i.0) g i.1 c.args.target) of)

pub returns-clause-met : goal.returns-clause-met
returns-clause-met c =
    let p = c.self.inside.program.value in
    let g = c.self.inside.connectors.value in
    let i = c.self.invariant in
    let P : Aims → Type 0 = λ s. IfOk c.problem_of.result (IsMetWhere s.program s.connectors c.args.target) in
    let Q : Aims → Type 0 = λ s. IsWithin c.args.target (length s.program.source.rules) in
    let of = of_source (paths_of p) g.graph c.self.inside.graph g.goal c.self.inside.goal c.self.inside.shared c.args.target c.problem_of.result i.2.rules_are i.3 i.4 c.problem_of.ensures.problem in
    subst P c.self.view_is
    (if_ok c.problem_of.result (IsProblemOf (paths_of p) g.graph g.goal c.args.target) (IsMetWhere p g c.args.target)
    (λ problem is. met p (c.keeps_law.ensures p i.0) g c.args.target problem (subst Q (sym c.self.view_is) c.requires) is) of)
