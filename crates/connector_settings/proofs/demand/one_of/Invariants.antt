use Rattle.std.proofs.Common.{◌≡◌, take}
use Rattle.connector_settings.specs.Demands.{word_tests}
use Rattle.connector_settings.proofs.demand.one_of.Given as goal

abbrev pub invariant-loop-variant : goal.invariant-loop-variant
invariant-loop-variant l = l.tests ≡ word_tests (take l.variant-index l.variants)
