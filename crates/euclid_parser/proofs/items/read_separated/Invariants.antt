use Rattle.std.proofs.Common.{length, ◌<◌}
use Rattle.euclid_grammar.specs.Texts.{tokens_alone}
use Rattle.euclid_parser.specs.Reading.{is_the_sign, next_reader, separated}
use Rattle.euclid_parser.proofs.Loop.{SoFar}
use Rattle.euclid_parser.proofs.items.read_separated.Given as goal

abbrev pub invariant-items : goal.invariant-items
invariant-items g l = record {
  so_far : SoFar (is_the_sign l.separator) (next_reader l.separator g.T.Item.reader) l.items l.rest.counts (tokens_alone l.rest.tokens.now) (separated l.separator g.T.Item.reader l.at.counts (tokens_alone l.at.tokens.now));
  shorter : length l.rest.tokens.now < length l.at.tokens.now;
}

abbrev pub decreases-items : goal.decreases-items
decreases-items g l = length l.rest.tokens.now
