use Rattle.std.proofs.Common.{ℕ, sym, subst, rules}
use Rattle.euclid_lexer.specs.Cuts.{IsWhole}
use Rattle.euclid_lexer.proofs.Whole.{whole_found}
use Rattle.euclid_lexer.proofs.front.sign.Goals as goal

pub returns-in-Some-clause-whole : goal.returns-in-Some-clause-whole
returns-in-Some-clause-whole c =
    let P : ℕ → Type 0 = λ n. IsWhole n c.args.text.now in
    subst P (sym c.len.ensures) (whole_found c.args.text.now c.in-Some.sign c.utf8.text (search rules))
