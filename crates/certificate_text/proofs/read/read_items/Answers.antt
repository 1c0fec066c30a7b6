use Rattle.std.proofs.Common.{sym, ap, ◌∙◌, arith, length, List}
use Rattle.rule_problem.specs.declared.certificate.Item.{Item}
use Rattle.certificate_text.specs.Reading.{proving}
use Rattle.certificate_text.specs.Walks.{from}
use Rattle.certificate_text.proofs.Walks.{naming_none}
use Rattle.certificate_text.proofs.read.read_items.Goals as goal

pub loop-items-init : goal.loop-items-init
loop-items-init c =
    let none = ap length c.new-items.ensures in
    record {
      goes = λ table atoms. naming_none table atoms c.args.lines.now.read c.args.lines.now.rest.now ∙ ap (λ (xs : List Item). from table (proving atoms xs) c.args.lines.now.read c.args.lines.now.rest.now) (sym c.new-items.ensures);
      read = omega arith;
      few = omega arith;
    }
