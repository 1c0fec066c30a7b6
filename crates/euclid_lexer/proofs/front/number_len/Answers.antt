use Rattle.std.proofs.Common.{ℕ, arith}
use Rattle.std.proofs.lemmas.Grind.{common_steps}
use Rattle.std.proofs.lemmas.List.Sums.{prefix_len-le-length}
use Rattle.euclid_lexer.proofs.front.number_len.Goals as goal

pub overflow_add-result : goal.overflow_add-result
overflow_add-result c = grind (arith, common_steps, prefix_len-le-length {X = ℕ})

pub returns-in-len1-up-clause-within : goal.returns-in-len1-up-clause-within
returns-in-len1-up-clause-within c = grind (arith, common_steps, prefix_len-le-length {X = ℕ})
