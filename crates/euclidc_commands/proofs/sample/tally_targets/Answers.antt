use Rattle.std.proofs.Common.{subst, sym}
use Rattle.connector_settings.specs.GraphOf.{IsGraphOf}
use Rattle.rule_report.specs.Aims.{Aims}
use Rattle.euclidc_commands.specs.Sample.{AreSmall, Counts, targets_of}
use Rattle.euclidc_commands.proofs.SampleLemmas.{aims_are, default_counted}
use Rattle.euclidc_commands.proofs.sample.tally_targets.Goals as goal

pub tally_rules-requires-clause-small : goal.tally_rules-requires-clause-small
tally_rules-requires-clause-small c =
    let made = aims_are c.in_ok-targets.targets c.args.typed.now c.in_ok-program.program c.in_ok-connectors.connectors c.in_ok-targets.ensures c.in_ok-program.ensures.program in
    let P : Aims → Type 0 = λ a. AreSmall a in
    subst P (sym made) (c.requires.small c.in_ok-connectors.connectors c.in_ok-connectors.ensures.graph)

pub is_reached-requires-clause-small : goal.is_reached-requires-clause-small
is_reached-requires-clause-small c =
    let made = aims_are c.in_ok-targets.targets c.args.typed.now c.in_ok-program.program c.in_ok-connectors.connectors c.in_ok-targets.ensures c.in_ok-program.ensures.program in
    let P : Aims → Type 0 = λ a. AreSmall a in
    subst P (sym made) (c.requires.small c.in_ok-connectors.connectors c.in_ok-connectors.ensures.graph)

pub returns : goal.returns
returns c =
    let targets = c.in_ok-targets.targets in
    let s = c.args.settings.now in
    let tally = c.in_ok-tally.tally in
    let made = aims_are targets c.args.typed.now c.in_ok-program.program c.in_ok-connectors.connectors c.in_ok-targets.ensures c.in_ok-program.ensures.program in
    let G : Aims → Type 0 = λ a. IsGraphOf c.args.table.now s a.connectors in
    let graph = subst G (sym made) c.in_ok-connectors.ensures.graph in
    let P : Aims → Type 0 = λ a. Counts a.program s (targets_of 256) c.with.result.reached c.with.result.never in
    subst P made
    (default_counted targets.program s 256 tally.reached tally.never c.with.result.reached c.with.result.never c.in_ok-is_reached.is_reached (c.in_ok-is_reached.ensures s graph) (c.in_ok-tally.ensures.counts s graph)
    c.with.ensures.reached c.with.ensures.never)
