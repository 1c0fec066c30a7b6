use Rattle.std.proofs.Common.{Bool, length, string_bytes, sym, subst}
use Rattle.euclid_ast.specs.declared.meaning.Choice.TheVariants.{Default}
use Rattle.rule_report.specs.Answers.{targets_of}
use Rattle.euclidc_commands.specs.Appended.{rules_to, AppendsAll}
use Rattle.euclidc_commands.proofs.ReportLemmas.{appends_more}
use Rattle.euclidc_commands.proofs.report.put_targets.Goals as goal

pub returns : goal.returns
returns c =
    let targets = c.args.targets.now in
    let count = length targets.program.source.rules in
    let P : Bool → Type 0 = λ b. AppendsAll targets c.args.budget (targets_of count) (string_bytes c.args.out.now) (string_bytes c.put_target.new.out) b in
    subst P (sym c.either.ensures)
    (appends_more targets c.args.budget (rules_to count) Default (string_bytes c.args.out.now) (string_bytes c.put_rules.new.out) (string_bytes c.put_target.new.out) c.in_ok-rule_left.rule_left c.in_ok-default_left.default_left
    c.in_ok-rule_left.ensures c.in_ok-default_left.ensures)
