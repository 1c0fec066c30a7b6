use Rattle.std.proofs.Common.{length}
use Rattle.euclid_grammar.specs.Texts.{tokens_alone}
use Rattle.euclid_parser.specs.Reading.{is_name_token, rule_reader, rules_reader}
use Rattle.euclid_parser.proofs.Loop.{SoFar}
use Rattle.euclid_parser.proofs.program.read_rules.Given as goal

abbrev pub invariant-rules : goal.invariant-rules
invariant-rules l = record { so_far : SoFar is_name_token rule_reader l.rules l.rest.counts (tokens_alone l.rest.tokens.now) (rules_reader l.fn.at.counts (tokens_alone l.fn.at.tokens.now)) }

abbrev pub decreases-rules : goal.decreases-rules
decreases-rules l = length l.rest.tokens.now
