use Rattle.std.proofs.Common.{List, ℕ, sym, subst}
use Rattle.rule_report.specs.Numbered.{rule_numbers, AreWithin}
use Rattle.rule_report.proofs.Walks.{behind_none}
use Rattle.rule_report.proofs.paths.push_rule.Goals as goal

pub push_statements-requires-clause-within : goal.push_statements-requires-clause-within
push_statements-requires-clause-within c =
    let P : List (List ℕ) → Type 0 = λ z. AreWithin c.args.shared.now z in
    subst P (sym (behind_none (rule_numbers c.args.rule.now))) c.requires.within

pub returns-clause-added : goal.returns-clause-added
returns-clause-added c = rw (sym (behind_none (rule_numbers c.args.rule.now))) c.push_statements.ensures.added
