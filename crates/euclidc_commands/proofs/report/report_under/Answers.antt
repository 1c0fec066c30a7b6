use Rattle.std.proofs.Common.{ℕ, List, [], length, string_bytes, sym, subst}
use Rattle.rule_report.specs.Answers.{targets_of}
use Rattle.euclidc_commands.specs.Appended.{AppendsAll}
use Rattle.euclidc_commands.proofs.ReportLemmas.{reported}
use Rattle.euclidc_commands.proofs.report.report_under.Goals as goal

pub returns : goal.returns
returns c =
    let targets = c.in_ok-targets.targets in
    let left = c.in_ok-is_left.is_left in
    let A : List ℕ → List ℕ → Type 0 = λ old text. AppendsAll targets c.args.budget (targets_of (length targets.program.source.rules)) old text left in
    let all : A [] c.from.result = subst (A []) (sym c.from.ensures) (subst (λ old. A old (string_bytes c.put_targets.new.out)) c.new-out.ensures.bytes c.in_ok-is_left.ensures) in
    reported c.args.table.now c.in_ok-program.program c.args.typed.now c.args.settings.now c.in_ok-connectors.connectors targets c.args.budget c.from.result c.verdict_where.result left
    c.in_ok-program.ensures.program c.requires.table c.in_ok-targets.ensures c.rules.ensures.typed c.in_ok-connectors.ensures.graph all c.verdict_where.ensures
