use Rattle.rule_report.proofs.SatLaws.{reaches}
use Rattle.rule_report.proofs.laws.reaches_law.Goals as goal

pub returns : goal.returns
returns c = reaches c.keeps_law.ensures
