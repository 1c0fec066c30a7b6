use Rattle.std.proofs.Common.{rules, length}
use Rattle.std.proofs.lemmas.Result.{err_from_is_err_and}
use Rattle.euclid_grammar.specs.Texts.{tokens_alone}
use Rattle.euclid_parser.specs.Reading.{is_the_sign, next_reader, separated}
use Rattle.euclid_parser.proofs.Loop.{fewer, first_read, more, ends, done}
use Rattle.euclid_parser.proofs.items.read_separated.Goals as goal

pub items-init : goal.items-init
items-init g c = record {
  so_far = first_read c.args.separator g.T.Item.reader c.args.at.counts (tokens_alone c.args.at.tokens.now) c.push.new.self c.in_ok-first.first c.in_ok-first.rest.counts (tokens_alone c.in_ok-first.rest.tokens.now) c.in_ok-first.ensures.gives (search rules);
  shorter = search rules;
}

pub returns-in_err-item-clause-gives : goal.returns-in_err-item-clause-gives
returns-in_err-item-clause-gives g c =
    let p = err_from_is_err_and c.from_residual-in_err-item.result c.from_residual-in_err-item.ensures.1 in
    rw (p.1, p.2)
    (ends (is_the_sign c.args.separator) (next_reader c.args.separator g.T.Item.reader) c.in_err-item.field-0.0 c.items.items (length c.as_slice.result.now) c.items.rest.counts (tokens_alone c.items.rest.tokens.now) (separated c.args.separator g.T.Item.reader c.args.at.counts (tokens_alone c.args.at.tokens.now))
    (search rules) (search rules) c.in_err-item.ensures.gives c.items.invariant.so_far)

pub items-preserved : goal.items-preserved
items-preserved g c = record {
  so_far =
      more (is_the_sign c.args.separator) (next_reader c.args.separator g.T.Item.reader) c.items.items c.push-in-items.new.self (length c.as_slice.result.now) c.items.rest.counts (tokens_alone c.items.rest.tokens.now) c.in_ok-item.item c.in_ok-item.next.counts (tokens_alone c.in_ok-item.next.tokens.now) (separated c.args.separator g.T.Item.reader c.args.at.counts (tokens_alone c.args.at.tokens.now))
      (search rules) (search rules) c.in_ok-item.ensures.gives (fewer c.in_ok-item.next.tokens.now c.items.rest.tokens.now c.in_ok-item.ensures.shorter) (search rules) c.items.invariant.so_far;
  shorter = search rules;
}

pub returns-clause-gives : goal.returns-clause-gives
returns-clause-gives g c =
    done (is_the_sign c.args.separator) (next_reader c.args.separator g.T.Item.reader) c.items.items c.items.rest.counts (tokens_alone c.items.rest.tokens.now) (separated c.args.separator g.T.Item.reader c.args.at.counts (tokens_alone c.args.at.tokens.now)) (search rules) c.items.invariant.so_far
