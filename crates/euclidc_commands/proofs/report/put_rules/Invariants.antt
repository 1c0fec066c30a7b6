use Rattle.std.proofs.Common.{string_bytes}
use Rattle.euclidc_commands.specs.Appended.{rules_to, AppendsAll}
use Rattle.euclidc_commands.proofs.report.put_rules.Given as goal

abbrev pub invariant-loop-rule : goal.invariant-loop-rule
invariant-loop-rule l = AppendsAll l.targets l.budget (rules_to l.rule) (string_bytes l.fn.out) (string_bytes l.out) l.is_left
