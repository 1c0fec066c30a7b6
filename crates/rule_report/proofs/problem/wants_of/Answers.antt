use Rattle.std.proofs.Common.{◌≡◌, List, [], Some, map, refl, sym, subst, ap, ◌∙◌, option_copied}
use Rattle.rule_report.specs.declared.numbered.NumberedStatement.{NumberedStatement}
use Rattle.rule_report.specs.Paths.{Path}
use Rattle.rule_report.specs.Numbered.{atoms_at, rule_numbers}
use Rattle.rule_report.specs.Targets.{wanted}
use Rattle.rule_report.specs.Taken.{IsAdded}
use Rattle.rule_report.proofs.Made.{wanted_map, wanted_none, want_atoms, want_said, no_want}
use Rattle.rule_report.proofs.problem.wants_of.Goals as goal

pub returns-in_ok-push-in-Some-clause-atoms : goal.returns-in_ok-push-in-Some-clause-atoms
returns-in_ok-push-in-Some-clause-atoms c =
    let f : List NumberedStatement → List Path = λ rule. map (atoms_at c.args.shared.now) (rule_numbers rule) in
    let is : wanted c.args.target c.args.rules.now ≡ Some c.in-Some.rule.now = sym c.wanted.ensures ∙ ap option_copied c.in-Some.is in
    let Q : List NumberedStatement → Type 0 = λ z. IsAdded c.args.taken.now.atoms (f z) c.paths_of_rule.new.taken.atoms [] c.in_ok-paths_of_rule-in-Some.field-0 in
    let added = subst Q c.as_slice.ensures c.in_ok-paths_of_rule-in-Some.ensures.added in
    want_atoms (map f c.args.rules.now) c.args.target (f c.in-Some.rule.now) c.args.taken.now.atoms c.paths_of_rule.new.taken.atoms (wanted_map f c.args.target c.args.rules.now c.in-Some.rule.now is) added.atoms

pub returns-in_ok-push-in-Some-clause-said : goal.returns-in_ok-push-in-Some-clause-said
returns-in_ok-push-in-Some-clause-said c =
    let f : List NumberedStatement → List Path = λ rule. map (atoms_at c.args.shared.now) (rule_numbers rule) in
    let is : wanted c.args.target c.args.rules.now ≡ Some c.in-Some.rule.now = sym c.wanted.ensures ∙ ap option_copied c.in-Some.is in
    let Q : List NumberedStatement → Type 0 = λ z. IsAdded c.args.taken.now.atoms (f z) c.paths_of_rule.new.taken.atoms [] c.in_ok-paths_of_rule-in-Some.field-0 in
    let added = subst Q c.as_slice.ensures c.in_ok-paths_of_rule-in-Some.ensures.added in
    rw (c.in_ok-push-in-Some.ensures.ok, c.in_ok-wants-in-Some.ensures)
    (want_said (map f c.args.rules.now) c.args.target (f c.in-Some.rule.now) c.args.taken.now.atoms c.paths_of_rule.new.taken.atoms
    c.in_ok-paths_of_rule-in-Some.field-0 (wanted_map f c.args.target c.args.rules.now c.in-Some.rule.now is) added)

pub returns-in-None-clause-atoms : goal.returns-in-None-clause-atoms
returns-in-None-clause-atoms c =
    let f : List NumberedStatement → List Path = λ rule. map (atoms_at c.args.shared.now) (rule_numbers rule) in
    let none = no_want (map f c.args.rules.now) c.args.target (wanted_none f c.args.target c.args.rules.now (sym c.wanted.ensures ∙ ap option_copied c.in-None.is)) in
    rw none refl

pub returns-in-None-clause-said : goal.returns-in-None-clause-said
returns-in-None-clause-said c =
    let f : List NumberedStatement → List Path = λ rule. map (atoms_at c.args.shared.now) (rule_numbers rule) in
    let none = no_want (map f c.args.rules.now) c.args.target (wanted_none f c.args.target c.args.rules.now (sym c.wanted.ensures ∙ ap option_copied c.in-None.is)) in
    rw (none, c.new.ensures) refl
