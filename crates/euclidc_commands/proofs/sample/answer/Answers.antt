use Rattle.std.proofs.Common.{length, refl, ap, ◌∙◌}
use Rattle.dir_typing.specs.Typed.{Typed}
use Rattle.euclidc_commands.specs.declared.status.Verdict.TheVariants as verdict
use Rattle.euclidc_commands.proofs.SampleLemmas.{sample_small, summarized, one_answer}
use Rattle.euclidc_commands.proofs.sample.answer.Goals as goal

pub tally_targets-requires-clause-rules : goal.tally_targets-requires-clause-rules
tally_targets-requires-clause-rules c = ap (λ (p : Typed). length p.source.rules) c.in_ok-typed.ensures ∙ c.within_law.ensures.count c.args.seed

pub tally_targets-requires-clause-small : goal.tally_targets-requires-clause-small
tally_targets-requires-clause-small c =
    sample_small c.small_law.ensures c.args.seed c.in_ok-table.table c.in_ok-typed.typed c.in_ok-settings.settings c.in_ok-table.ensures c.in_ok-typed.ensures c.in_ok-settings.ensures.settings

pub returns-clause-summary : goal.returns-clause-summary
returns-clause-summary c =
    summarized c.args.seed c.in_ok-typed.typed c.in_ok-settings.settings c.in_ok-tally.tally.reached c.in_ok-tally.tally.never _ _ c.in_ok-typed.ensures c.in_ok-settings.ensures.settings
    c.in_ok-tally.ensures c.in_ok-summary.ensures refl

pub returns-clause-only : goal.returns-clause-only
returns-clause-only c other v is =
    let given = summarized c.args.seed c.in_ok-typed.typed c.in_ok-settings.settings c.in_ok-tally.tally.reached c.in_ok-tally.tally.never _ verdict.Done c.in_ok-typed.ensures c.in_ok-settings.ensures.settings
    c.in_ok-tally.ensures c.in_ok-summary.ensures refl in
    one_answer c.args.seed other _ v verdict.Done is given
