use Rattle.std.proofs.Common.{subst}
use Rattle.key_table.specs.Answers.{Answers}
use Rattle.euclid_parser.proofs.Right.{right_answer, only_right, within_limits}
use Rattle.euclid_parser.proofs.parsing.parse.Goals as goal

pub returns-clause-right : goal.returns-clause-right
returns-clause-right c = right_answer c.written_law.ensures c.args.bytes.now c.parse_text.result c.parse_text.ensures

pub returns-clause-only : goal.returns-clause-only
returns-clause-only c = λ r h. subst (Answers (λ p. p) c.parse_text.result) (only_right c.written_law.ensures c.args.bytes.now r h) c.parse_text.ensures

pub returns-clause-within : goal.returns-clause-within
returns-clause-within c =
    within_limits c.limits_law.ensures c.args.bytes.now c.parse_text.result
    (right_answer c.written_law.ensures c.args.bytes.now c.parse_text.result c.parse_text.ensures)
