use Rattle.euclidc_commands.proofs.FormLemmas.{text_reads}
use Rattle.euclidc_commands.proofs.forms.text_of.Goals as goal

pub returns-clause-reads_back : goal.returns-clause-reads_back
returns-clause-reads_back c = λ within. text_reads c.text_law.ensures c.args.program.now c.in_ok-text.text c.in_ok-text.ensures.text (c.in_ok-text.ensures.reads_back within)
