use Rattle.std.proofs.Common.{◌≡◌, List, [], ap, subst, ◌∙◌, map, fold}
use Rattle.std.specs.List.{flat_map}
use Rattle.key_table.specs.declared.atom.Atom.{Atom}
use Rattle.rule_problem.specs.Distinct.{with_atom}
use Rattle.rule_report.specs.declared.numbered.NumberedStatement.{NumberedStatement}
use Rattle.rule_report.specs.Paths.{Path, joined}
use Rattle.rule_report.specs.Numbered.{atoms_at, rule_numbers}
use Rattle.rule_report.specs.Targets.{before, wants_of, said, all_true}
use Rattle.rule_report.specs.Shared.{shared_paths}
use Rattle.rule_report.specs.Taken.{IsAdded}
use Rattle.rule_report.proofs.Made.{bars_are, problem_is}
use Rattle.rule_report.proofs.problem.problem_of.Goals as goal

pub returns-clause-problem : goal.returns-clause-problem
returns-clause-problem c =
    let f : List Atom → List NumberedStatement → List Path = λ shared rule. map (atoms_at shared) (rule_numbers rule) in
    let keys = c.args.shared.now.atoms.keys in
    let rules = c.args.shared.now.rules in
    let first = c.wants_of.new.taken.atoms in
    let second = c.paths_of_rules.new.taken.atoms in
    let third = c.take_all.new.taken.atoms in
    let Of : List Atom → List (List NumberedStatement) → List (List Path) = λ k r. map (f k) r in
    let W : List Atom → Type 0 = λ k. first ≡ fold with_atom c.in_ok-taken.taken.atoms (joined (joined (wants_of (Of k c.as_slice-rules.result.now) c.args.target))) in
    let W' : List (List NumberedStatement) → Type 0 = λ r. first ≡ fold with_atom c.in_ok-taken.taken.atoms (joined (joined (wants_of (Of keys r) c.args.target))) in
    let W'' : List Atom → Type 0 = λ z. first ≡ fold with_atom z (joined (joined (wants_of (Of keys rules) c.args.target))) in
    let S : List Atom → Type 0 = λ k. map (map (said first)) c.in_ok-wants.wants ≡ map (map all_true) (wants_of (Of k c.as_slice-rules.result.now) c.args.target) in
    let S' : List (List NumberedStatement) → Type 0 = λ r. map (map (said first)) c.in_ok-wants.wants ≡ map (map all_true) (wants_of (Of keys r) c.args.target) in
    let B : List Atom → Type 0 = λ k. IsAdded first (flat_map (f k) c.barred.result.now) second [] c.in_ok-bars.bars in
    let B' : List (List NumberedStatement) → Type 0 = λ r. IsAdded first (flat_map (f keys) r) second [] c.in_ok-bars.bars in
    let B'' : List Path → Type 0 = λ z. IsAdded first z second [] c.in_ok-bars.bars in
    let wants = subst W'' c.in_ok-taken.ensures.atoms (subst W' c.as_slice-rules.ensures (subst W c.as_slice-atoms.ensures.keys c.in_ok-wants.ensures.atoms)) in
    let says = subst S' c.as_slice-rules.ensures (subst S c.as_slice-atoms.ensures.keys c.in_ok-wants.ensures.said) in
    let barred : c.barred.result.now ≡ before c.args.target rules = c.barred.ensures ∙ ap (before c.args.target) c.as_slice-rules.ensures in
    let bars = subst B'' (bars_are (f keys) c.args.target rules) (subst B' barred (subst B c.as_slice-atoms.ensures.keys c.in_ok-bars.ensures.added)) in
    let graph = ap (λ (z : List Atom). atoms_at z c.as_slice.result.now) c.as_slice-atoms.ensures.keys ∙ ap (atoms_at keys) c.as_slice.ensures ∙ c.requires.graph in
    rw (c.wants.view_is, c.bars.view_is, c.in_ok-copy.ensures)
    (problem_is (shared_paths c.args.shared.now) c.args.graph.now c.args.goal c.args.target first second third c.in_ok-wants.wants c.in_ok-bars.bars
    wants says bars (c.in_ok-take_all.ensures.atoms ∙ ap (fold with_atom second) graph))
