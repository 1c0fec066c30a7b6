use Rattle.std.proofs.Common.{rules, length}
use Rattle.std.proofs.lemmas.Result.{err_from_is_err_and}
use Rattle.euclid_grammar.specs.Texts.{tokens_alone}
use Rattle.euclid_parser.specs.Reading.{is_name_token, rule_reader, rules_reader}
use Rattle.euclid_parser.proofs.Loop.{fewer, none_read, more, ends, done}
use Rattle.euclid_parser.proofs.program.read_rules.Goals as goal

pub rules-init : goal.rules-init
unfolding rules_reader
rules-init c = record { so_far = none_read is_name_token rule_reader c.new-rules.result c.args.at.counts (tokens_alone c.args.at.tokens.now) (search rules) }

pub returns-in_err-rule : goal.returns-in_err-rule
returns-in_err-rule c =
    let p = err_from_is_err_and c.from_residual.result c.from_residual.ensures.1 in
    rw (p.1, p.2)
    (ends is_name_token rule_reader c.in_err-rule.field-0.0 c.rules.rules (length c.as_slice.result.now) c.rules.rest.counts (tokens_alone c.rules.rest.tokens.now) (rules_reader c.args.at.counts (tokens_alone c.args.at.tokens.now))
    (search rules) (search rules) c.in_err-rule.ensures.gives c.rules.invariant.so_far)

pub rules-preserved : goal.rules-preserved
rules-preserved c = record {
  so_far =
      more is_name_token rule_reader c.rules.rules c.push.new.self (length c.as_slice.result.now) c.rules.rest.counts (tokens_alone c.rules.rest.tokens.now) c.in_ok-rule.rule c.in_ok-rule.next.counts (tokens_alone c.in_ok-rule.next.tokens.now) (rules_reader c.args.at.counts (tokens_alone c.args.at.tokens.now))
      (search rules) (search rules) c.in_ok-rule.ensures.gives (fewer c.in_ok-rule.next.tokens.now c.rules.rest.tokens.now c.in_ok-rule.ensures.shorter) (search rules) c.rules.invariant.so_far;
}

pub returns : goal.returns
returns c = done is_name_token rule_reader c.rules.rules c.rules.rest.counts (tokens_alone c.rules.rest.tokens.now) (rules_reader c.args.at.counts (tokens_alone c.args.at.tokens.now)) (search rules) c.rules.invariant.so_far
