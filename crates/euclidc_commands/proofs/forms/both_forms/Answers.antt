use Rattle.euclidc_commands.proofs.FormLemmas.{alike}
use Rattle.euclidc_commands.proofs.forms.both_forms.Goals as goal

pub returns-clause-alike : goal.returns-clause-alike
returns-clause-alike c =
    λ within. alike c.args.program.now c.in_ok-text.text c.in_ok-json.json (c.in_ok-text.ensures.reads_back within) (c.in_ok-json.ensures.reads_back within)
