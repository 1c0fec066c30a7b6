use Rattle.euclid_lexer.proofs.Steps.{tokens_of-utf8, tokens_of-other}
use Rattle.euclid_lexer.proofs.lexing.lex.Goals as goal

pub returns-in-Ok : goal.returns-in-Ok
returns-in-Ok c = record { tokens = rw (tokens_of-utf8 c.args.bytes.now c.in-Ok.ensures.cases.1, ← c.in-Ok.ensures.cases.0) c.tokens.ensures }

pub returns-in-Err : goal.returns-in-Err
returns-in-Err c = record { tokens = rw (c.fault.ensures, c.valid_up_to.ensures, c.in-Err.ensures.valid_len) (tokens_of-other c.args.bytes.now c.in-Err.ensures.cases.0) }
