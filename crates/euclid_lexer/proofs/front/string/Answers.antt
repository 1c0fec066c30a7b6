use Rattle.std.proofs.Common.{◌≡◌, ◌==◌, true, drop, rules, arith}
use Rattle.std.proofs.lemmas.Bool.Decides.{nat_tests}
use Rattle.euclid_lexer.specs.Tokens.{next_is}
use Rattle.euclid_lexer.proofs.Whole.{whole_string, cut_first}
use Rattle.euclid_lexer.proofs.front.string.Goals as goal

pub range_from-behind-requires : goal.range_from-behind-requires
range_from-behind-requires c = λ _. cut_first (λ b. b == 34) c.args.text.now c.utf8.text (λ b e. grind (arith, nat_tests)) c.requires

pub returns-clause-whole : goal.returns-clause-whole
returns-clause-whole c =
    let e : next_is (λ b. b == 34) (drop c.inner-len.result (drop 1 c.args.text.now)) ≡ true = search rules in
    whole_string c.args.text.now c.inner-len.result c.utf8.text e
