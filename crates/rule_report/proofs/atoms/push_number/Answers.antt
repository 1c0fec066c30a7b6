use Rattle.std.proofs.Common.{◌≡◌, List, [], ◌∷◌, ◌++◌, ℕ, sym, subst}
use Rattle.rule_report.specs.Numbered.{AreNumbersOf}
use Rattle.rule_report.proofs.Growth.{numbers_more}
use Rattle.rule_report.proofs.Images.{then_ok}
use Rattle.rule_report.proofs.atoms.push_number.Goals as goal

pub returns-clause-right : goal.returns-clause-right
returns-clause-right c = λ there h.
    let P : List ℕ → Type 0 = λ z. AreNumbersOf c.number_of.new.atoms.keys z (there ++ c.args.atom.now ∷ []) in
    then_ok c.push.result (c.push.new.self ≡ c.args.numbers.now ++ c.in_ok-number.number ∷ []) (P c.push.new.self) c.push.ensures.ok
    (λ e. subst P (sym e) (numbers_more c.args.atoms.now.keys c.number_of.new.atoms.keys c.in_ok-number.ensures.grown c.args.numbers.now there c.in_ok-number.number c.args.atom.now h c.in_ok-number.ensures.right))
