use Rattle.std.proofs.Common.{◌≤◌, ◌+◌, ◌*◌, length}
use Rattle.euclid_grammar.specs.Texts.{tokens_alone}
use Rattle.euclid_parser.specs.Reading.{is_word_token, statement_reader, statements_reader}
use Rattle.euclid_parser.proofs.Loop.{SoFar}
use Rattle.euclid_parser.proofs.statements.+statements.Given as goal

abbrev pub decreases-read_statement : goal.decreases-read_statement
decreases-read_statement l = 3 * l.levels

abbrev pub decreases-read_statements : goal.decreases-read_statements
decreases-read_statements l = 3 * l.levels + 1

abbrev pub decreases-read_nested : goal.decreases-read_nested
decreases-read_nested l = 3 * l.levels + 2

abbrev pub invariant-read_statements-statements : goal.invariant-read_statements-statements
invariant-read_statements-statements l = record {
  so_far : SoFar is_word_token (λ _. statement_reader l.levels) l.statements l.rest.counts (tokens_alone l.rest.tokens.now) (statements_reader (statement_reader l.levels) l.fn.at.counts (tokens_alone l.fn.at.tokens.now));
  no_longer : length l.rest.tokens.now ≤ length l.fn.at.tokens.now;
}

abbrev pub decreases-read_statements-statements : goal.decreases-read_statements-statements
decreases-read_statements-statements l = length l.rest.tokens.now
