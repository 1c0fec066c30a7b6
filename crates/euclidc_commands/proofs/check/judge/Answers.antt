use Rattle.euclidc_commands.proofs.CheckLemmas.{tried}
use Rattle.euclidc_commands.proofs.check.judge.Goals as goal

pub returns : goal.returns
returns c =
    tried c.args.table.now c.in_ok-program.program c.args.typed.now c.args.settings.now c.args.target c.args.certificate.now c.in_ok-connectors.connectors c.in_ok-problem.problem c.in_ok-verdict.verdict c.answer.result
    c.in_ok-program.ensures.program c.requires.table c.requires.target c.rules.ensures.typed c.in_ok-connectors.ensures.graph c.in_ok-problem.ensures.problem c.in_ok-problem.ensures.fits
    c.in_ok-verdict.ensures.judged c.in_ok-verdict.ensures.exact c.answer.ensures
