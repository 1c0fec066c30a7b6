use Rattle.std.proofs.Common.{rules}
use Rattle.euclid_parser.proofs.Answer.{left_placed}
use Rattle.euclid_parser.proofs.parsing.parse_text.Goals as goal

pub error_at-requires-clause-left : goal.error_at-requires-clause-left
error_at-requires-clause-left c = left_placed c.as_slice-tokens.result.now c.in-Err-Fault.field-0 c.in-Err-Fault.fault (search rules) c.in-Err-Fault.ensures
