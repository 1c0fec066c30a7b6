use Rattle.std.proofs.Common.{rules, length, refl}
use Rattle.std.proofs.lemmas.Result.{err_from_is_err_and}
use Rattle.euclid_grammar.specs.Texts.{tokens_alone}
use Rattle.euclid_parser.specs.Reading.{is_word_token, statement_reader, statements_reader}
use Rattle.euclid_parser.proofs.Loop.{fewer, none_read, more, ends, done}
use Rattle.euclid_parser.proofs.statements.+statements.Goals as goal

pub read_statements-statements-init : goal.read_statements-statements-init
unfolding statements_reader
read_statements-statements-init t c = record {
  so_far = none_read is_word_token (λ _. statement_reader c.args.levels) c.new-statements.result c.args.at.counts (tokens_alone c.args.at.tokens.now) (search rules);
  no_longer = search rules;
}

pub read_statements-returns-in_err-statement-clause-gives :
    goal.read_statements-returns-in_err-statement-clause-gives
read_statements-returns-in_err-statement-clause-gives t c =
    let p = err_from_is_err_and c.from_residual.result c.from_residual.ensures.1 in
    rw (p.1, p.2)
    (ends is_word_token (λ _. statement_reader c.args.levels) c.in_err-statement.field-0.0 c.statements.statements (length c.statements.statements) c.statements.rest.counts (tokens_alone c.statements.rest.tokens.now) (statements_reader (statement_reader c.args.levels) c.args.at.counts (tokens_alone c.args.at.tokens.now))
    refl (search rules) c.in_err-statement.ensures.gives c.statements.invariant.so_far)

pub read_statements-statements-preserved : goal.read_statements-statements-preserved
read_statements-statements-preserved t c = record {
  so_far =
      more is_word_token (λ _. statement_reader c.args.levels) c.statements.statements c.push.new.self (length c.statements.statements) c.statements.rest.counts (tokens_alone c.statements.rest.tokens.now) c.in_ok-statement.statement c.in_ok-statement.next.counts (tokens_alone c.in_ok-statement.next.tokens.now) (statements_reader (statement_reader c.args.levels) c.args.at.counts (tokens_alone c.args.at.tokens.now))
      refl (search rules) c.in_ok-statement.ensures.gives (fewer c.in_ok-statement.next.tokens.now c.statements.rest.tokens.now c.in_ok-statement.ensures.shorter) (search rules) c.statements.invariant.so_far;
  no_longer = search rules;
}

pub read_statements-returns-clause-gives : goal.read_statements-returns-clause-gives
read_statements-returns-clause-gives t c =
    done is_word_token (λ _. statement_reader c.args.levels) c.statements.statements c.statements.rest.counts (tokens_alone c.statements.rest.tokens.now) (statements_reader (statement_reader c.args.levels) c.args.at.counts (tokens_alone c.args.at.tokens.now)) (search rules) c.statements.invariant.so_far
