use Rattle.std.proofs.Common.{[], ◌∷◌}
use Rattle.rule_report.specs.Numbered.{IsGrown}
use Rattle.rule_report.proofs.Images.{on_ok}
use Rattle.rule_report.proofs.atoms.number_of.Goals as goal

pub returns-clause-grown : goal.returns-clause-grown
returns-clause-grown c = on_ok c.number.result (IsGrown c.args.atoms.now.keys c.insert_full.new.self.keys) (c.in_ok-copy.field-0 ∷ [], c.in_ok-place.ensures.keys)
